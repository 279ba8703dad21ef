use Rattle.std.proofs.Common.{◌≡◌, ◌∙◌, ◌<◌, true, length, ap, arith}
use Rattle.std.specs.BTreeMap.{get_by_text}
use Rattle.std.proofs.lemmas.Bool.Decides.{nat_tests}
use Rattle.sal_grouping.specs.Rows.{is_number}
use Rattle.sal_grouping.specs.Indexes.{Names}
use Rattle.sal_grouping.proofs.look_up.first_of.Goals as goal

pub returns : goal.returns
returns c =
    let lt : c.args.b < length c.args.rows.now = omega (arith, c.requires.count) in
    let number : is_number c.args.rows.now c.args.b ≡ true = grind (arith, nat_tests) in
    let each = c.requires.each c.args.b c.index-maps-b.result lt c.args.name.now in
    rw number (c.copied.ensures ∙ c.get.ensures.value ∙ ap (λ (m : Names). get_by_text m c.args.name.now) c.index-maps-b.is ∙ each)
