use Rattle.std.proofs.Common.{None}
use Rattle.std.proofs.lemmas.List.{get_or_default}
use Rattle.std.proofs.lemmas.Option.{slice_get-get_or}
use Rattle.sal_grouping.specs.Children.{node_faults}
use Rattle.sal_grouping.proofs.Places.{least_more}
use Rattle.sal_grouping.proofs.children.child_fault.Goals as goal

pub put_node-requires-clause-place : goal.put_node-requires-clause-place
put_node-requires-clause-place c = slice_get-get_or c.args.nodes.now c.loop-k.k _ c.loop-k-test.true

pub loop-k-preserved : goal.loop-k-preserved
loop-k-preserved c =
    let next = rw c.in_ok-first.ensures.first at c.with_node-best.ensures in
    record {
      known = c.in_ok-first.ensures.known;
      fault = least_more (node_faults c.args.rows.now c.args.nodes.now) c.args.nodes.now c.loop-k.k _ None c.loop-k.best c.with_node-best.result
          c.loop-k-test.true (get_or_default c.args.nodes.now c.loop-k.k _ _ c.loop-k-test.true) c.loop-k.invariant.fault next;
    }
