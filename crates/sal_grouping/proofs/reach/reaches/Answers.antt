use Rattle.std.proofs.Common.{◌≡◌, ◌∙◌, ◌==◌, false, length, get_or, sym, ap, arith}
use Rattle.std.proofs.lemmas.Bool.Decides.{nat_tests}
use Rattle.sal_grouping.specs.Indexes.{lists}
use Rattle.sal_module.proofs.Rounds.{marked-at}
use Rattle.sal_grouping.proofs.Rounds.{unreached-below}
use Rattle.sal_grouping.proofs.reach.reaches.Goals as goal

pub returns-then-is_below : goal.returns-then-is_below
returns-then-is_below c =
    let a = c.args in
    let other : (a.used == a.g) ≡ false = grind (arith, nat_tests) in
    rw other (sym (unreached-below (lists a.edges.now) a.ranking.now c.requires a.g a.used (length a.edges.now) (sym c.is_below.ensures ∙ c.if-is_below.true)))

pub returns : goal.returns
returns c =
    let a = c.args in
    let other : (a.used == a.g) ≡ false = grind (arith, nat_tests) in
    let marks = rw c.as_slice.ensures.value at c.is_marked.ensures in
    rw other (marks ∙ ap (λ m. get_or m a.used false) c.in_ok-marks.ensures ∙ marked-at (lists a.edges.now) (length a.edges.now) a.g a.used)
