use Rattle.std.proofs.Common.{refl, arith}
use Rattle.sal_tree.specs.Rows.{from_depth, other_rows}
use Rattle.sal_tree.proofs.Builds.{partly-none, partly-next, first-deep, next-ascending, built-end, left-shorter}
use Rattle.sal_tree.proofs.building.+build.Goals as goal

pub loop-left-init : goal.loop-left-init
loop-left-init t c = partly-none c.args.stamp c.args.depth (from_depth c.args.depth c.args.rows.now) c.new-builder.result (from_depth c.args.depth c.others-left.result.now) c.new-builder.ensures c.others-left.ensures c.requires.ascending

pub step_at-step-requires : goal.step_at-step-requires
step_at-step-requires t c = first-deep c.args.stamp c.args.depth (other_rows (from_depth c.args.depth c.args.rows.now)) c.loop-left.builder c.loop-left.left.now c.first-item.result c.in-len1-up.len_at_least c.first-item.is c.loop-left.invariant

pub build-requires : goal.build-requires
build-requires t c = (
  omega (arith, c.step_at-step.ensures.deep, c.decreases),
  (
    omega (arith, c.step_at-step.ensures.deep),
    next-ascending c.args.stamp c.args.depth (other_rows (from_depth c.args.depth c.args.rows.now)) c.loop-left.builder c.loop-left.left.now c.front.result.now c.step_at-step.result.now c.run_length-count.result c.loop-left.invariant c.run_length-count.ensures.run c.front.ensures,
  ),
)

pub loop-left-smaller : goal.loop-left-smaller
loop-left-smaller t c = left-shorter c.args.depth c.loop-left.left.now c.behind-left.result.now c.first-item.result c.step_at-step.result.now _ c.run_length-count.result c.in-len1-up.len_at_least c.first-item.is c.step_at-step.ensures.step c.run_length-count.ensures.run c.behind-left.ensures

pub loop-left-preserved : goal.loop-left-preserved
loop-left-preserved t c =
    partly-next c.args.stamp c.args.depth (other_rows (from_depth c.args.depth c.args.rows.now)) c.loop-left.builder c.in_ok-builder.builder c.loop-left.left.now c.front.result.now c.behind-left.result.now c.first-item.result c.step_at-step.result.now c.step_at-step.result.now _ c.run_length-count.result c.in_ok-child.child c.in_ok-child.child
    c.step_at-step.ensures.deep c.in-len1-up.len_at_least c.first-item.is c.step_at-step.ensures.step c.run_length-count.ensures.run c.front.ensures c.behind-left.ensures refl refl c.in_ok-builder.ensures c.loop-left.invariant c.in_ok-child.ensures

pub returns : goal.returns
returns t c = built-end c.args.stamp c.args.depth c.args.rows.now c.loop-left.builder c.loop-left.left.now _ c.in_ok-node.node c.requires.deep c.in_default.len_below c.in_ok-cell.ensures c.in_ok-node.ensures c.loop-left.invariant
