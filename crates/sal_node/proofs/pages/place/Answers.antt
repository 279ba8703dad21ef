use Rattle.std.proofs.Common.{◌+◌, ◌-◌, ◌/◌, true, false, arith}
use Rattle.sal_node.proofs.Steps.{place-above, place-below, place-le, gt_of}
use Rattle.sal_node.proofs.pages.place.Goals as goal

pub loop-low-init : goal.loop-low-init
loop-low-init c = record {
  low = omega arith;
  high = place-le c.args.step.now c.args.children.now;
  bound = omega arith;
}

pub loop-low-preserved-then-is_gt : goal.loop-low-preserved-then-is_gt
loop-low-preserved-then-is_gt c =
    let before = place-above c.args.step.now c.args.children.now (c.loop-low.low + (c.loop-low.high - c.loop-low.low) / 2) c.index-children-middle.result c.requires (omega (arith, c.loop-low-test.true, c.loop-low.invariant.bound)) c.index-children-middle.is (gt_of true c.is_gt.result c.args.step.now c.index-children-middle.result c.deref.result.now c.cmp.result c.deref.ensures c.cmp.ensures c.is_gt.ensures c.if-is_gt.true) in
    record {
      low = omega (arith, before);
      high = c.loop-low.invariant.high;
      bound = c.loop-low.invariant.bound;
    }

pub loop-low-preserved : goal.loop-low-preserved
loop-low-preserved c = record {
  low = c.loop-low.invariant.low;
  high = place-below c.args.step.now c.args.children.now (c.loop-low.low + (c.loop-low.high - c.loop-low.low) / 2) c.index-children-middle.result (omega (arith, c.loop-low-test.true, c.loop-low.invariant.bound)) c.index-children-middle.is (gt_of false c.is_gt.result c.args.step.now c.index-children-middle.result c.deref.result.now c.cmp.result c.deref.ensures c.cmp.ensures c.is_gt.ensures c.if-is_gt.false);
  bound = omega (arith, c.loop-low-test.true, c.loop-low.invariant.bound);
}
