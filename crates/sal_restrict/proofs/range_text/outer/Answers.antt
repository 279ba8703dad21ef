use Rattle.std.proofs.Common.{◌-◌, length, get_or, pos, FitsSigned, sym, subst, ◌∙◌, rules}
use Rattle.std.proofs.lemmas.Int.{to_z-of_z}
use Rattle.std.specs.Int.{w128}
use Rattle.sal_restrict.specs.declared.ranges.Part.{Part}
use Rattle.sal_restrict.proofs.Parts.{least-first, greatest-last}
use Rattle.sal_restrict.proofs.range_text.outer.Goals as goal

abbrev none : Part
none = record { low = pos 0; high = pos 0 }

pub returns : goal.returns
returns c =
    let within = c.args.within.now in
    let low : FitsSigned w128 (get_or within 0 none).low = search rules in
    let high : FitsSigned w128 (get_or within (length within - 1) none).high = search rules in
    let first = least-first within none c.requires in
    let last = greatest-last within none c.requires in
    let bottom = to_z-of_z w128 _ low ∙ sym first in
    let top = to_z-of_z w128 _ high ∙ sym last in
    record {
      value = λ i. record { low = bottom i; high = top i };
      fits = (subst (λ n. FitsSigned w128 n) (sym first) low, subst (λ n. FitsSigned w128 n) (sym last) high);
    }
