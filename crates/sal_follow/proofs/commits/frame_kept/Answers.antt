use Rattle.std.proofs.Common.{◌≡◌, ◌+◌, ◌-◌, ◌<◌, get_or, length, ap, sym, ◌∙◌, arith}
use Rattle.sal_graft.proofs.KeptLemmas.{next-tree}
use Rattle.sal_follow.proofs.commits.frame_kept.Goals as goal

pub frame_made-requires-clause-made : goal.frame_made-requires-clause-made
frame_made-requires-clause-made c = λ s.
    let n = c.args.number in
    let before = c.index-commits-at-else-at-eq0 in
    let after = c.index-commits-at in
    let some : (n - 1) + 1 ≡ n = omega (arith, c.if-at-eq0.false) in
    let inside : (n - 1) + 1 < length c.args.commits.now = omega (arith, some, c.requires.inside) in
    next-tree c.args.commits.now (n - 1) before.result after.result s c.requires.kept inside before.is (after.is ∙ ap (λ i. get_or c.args.commits.now i after.result) (sym some))
