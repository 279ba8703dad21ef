use Rattle.std.proofs.Common.{None, rules}
use Rattle.sal_module_table.specs.Inherited.{with_data_node}
use Rattle.sal_module_table.proofs.Above.{inherited-pushed}
use Rattle.sal_module_table.proofs.inherited.data_nodes_of.Goals as goal

pub loop-k-preserved : goal.loop-k-preserved
loop-k-preserved c =
    let over = rw c.deref.ensures.value at c.data_over-over.ensures in
    let is = rw (c.kind_of.ensures, over) at c.data_in.ensures in
    record {
      count = search rules;
      each = inherited-pushed (with_data_node c.args.modules.now) None c.args.forest.now c.loop-k.all.items _ c.loop-k.k _ c.data_in.result c.loop-k-test.true c.loop-k.invariant.count c.loop-k.invariant.each is
          c.in_ok-push.ensures.items;
    }
