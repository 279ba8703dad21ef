-- The walk is at its end.
use Rattle.std.proofs.Common.{◌≡◌, ◌++◌, ◌≤◌, List, [], Option, drop, length, min, ap, refl, sym, ◌∙◌, append-nil, arith}
use Rattle.sal_shapes.specs.declared.scene.Made.{Made}
use Rattle.sal_draw_log.specs.Drawn.{made_on}
use Rattle.sal_draw_log.proofs.Ends.{made_none}
use Rattle.sal_retell.proofs.Walks.{both_all}
use Rattle.sal_draw_log.proofs.scenes.made_on.Goals as goal

pub returns : goal.returns
returns c =
    let sent = c.args.sent.now in
    let outcomes = c.args.outcomes.now in
    let i = c.loop-i.i in
    let end : min (length sent) (length outcomes) ≤ i = omega (arith, c.loop-i-test.false, c.min-i-end.ensures) in
    let none : made_on (drop i sent) (drop i outcomes) ≡ [] = both_all made_on [] (λ ys. refl) made_none sent outcomes i end in
    sym (append-nil c.loop-i.made.items) ∙ ap (λ (xs : List (Option Made)). c.loop-i.made.items ++ xs) (sym none) ∙ c.loop-i.invariant
