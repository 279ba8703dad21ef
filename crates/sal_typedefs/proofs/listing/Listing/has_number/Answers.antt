use Rattle.std.proofs.Common.{◌∙◌, FitsSigned, ap, rules}
use Rattle.std.specs.BTreeSet.{contains}
use Rattle.std.specs.Int.{w128}
use Rattle.std.specs.Ordering.{int_cmp}
use Rattle.std.proofs.lemmas.Int.{to_z-of_z}
use Rattle.sal_typedefs.proofs.listing.Listing.has_number.Goals as goal

pub returns : goal.returns
returns c =
    let n = c.args.number in
    let fits : FitsSigned w128 n = search rules in
    c.contains.ensures ∙ ap (contains int_cmp c.args.self.now.numbers) (to_z-of_z w128 n fits) ∙ c.requires.values n
