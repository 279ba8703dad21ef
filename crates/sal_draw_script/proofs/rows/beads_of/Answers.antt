-- One step more, up to the last.
use Rattle.std.proofs.Common.{◌≡◌, ◌<◌, ◌≤◌, ℕ, length, min, refl, sym, ◌∙◌, arith}
use Rattle.std.specs.Prelude.{map}
use Rattle.sal_draw_script.specs.Rows.{bead_of}
use Rattle.sal_draw_script.proofs.Beads.{beads_all, beads_more}
use Rattle.sal_draw_script.proofs.rows.beads_of.Goals as goal

pub loop-i-preserved : goal.loop-i-preserved
loop-i-preserved c =
    let steps = c.args.steps.now in
    let replies = c.args.replies.now in
    let i = c.loop-i.i in
    let hx : i < length steps = omega (arith, c.loop-i-test.true, c.min-i-end.ensures) in
    let hy : i < length replies = omega (arith, c.loop-i-test.true, c.min-i-end.ensures) in
    beads_more steps replies i c.index-steps-i.result c.index-replies-i.result c.loop-i.beads.items c.append.new.list.items _ c.in_ok-append.ensures refl hx hy c.index-steps-i.is c.index-replies-i.is
    ∙ c.loop-i.invariant

pub returns : goal.returns
returns c =
    let end : min (length c.args.steps.now) (length c.args.replies.now) ≤ c.loop-i.i = omega (arith, c.loop-i-test.false, c.min-i-end.ensures) in
    sym (beads_all c.args.steps.now c.args.replies.now c.loop-i.i (map bead_of c.loop-i.beads.items) end) ∙ c.loop-i.invariant
