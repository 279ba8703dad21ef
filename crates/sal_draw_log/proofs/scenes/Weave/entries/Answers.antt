-- The walk is at its end.
use Rattle.std.proofs.Common.{List, ap, sym, ◌∙◌, arith}
use Rattle.std.specs.List.{fold}
use Rattle.sal_draw.specs.Acts.{made_in}
use Rattle.sal_draw_log.specs.Drawn.{Said, weave, weave_of}
use Rattle.sal_draw_log.proofs.Ends.{saids_past}
use Rattle.sal_draw_log.proofs.scenes.Weave.entries.Goals as goal

pub returns : goal.returns
returns c =
    let none = saids_past c.args.log.now c.args.replies.now c.loop-i.i (omega (arith, c.loop-i-test.false, c.min-i-end.ensures)) in
    ap (λ (xs : List Said). fold (weave c.args.ground.seats.now (made_in c.args.ground.made.now)) (weave_of c.loop-i.self) xs) (sym none) ∙ c.loop-i.invariant.0
