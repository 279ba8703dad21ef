use Rattle.std.proofs.Common.{None, rules}
use Rattle.sal_module_table.specs.Leafrefs.{with_message}
use Rattle.sal_module_table.proofs.Above.{inherited-pushed}
use Rattle.sal_module_table.proofs.walk.messages_of.Goals as goal

pub loop-k-preserved : goal.loop-k-preserved
loop-k-preserved c =
    let over = rw c.deref.ensures.value at c.data_over-over.ensures in
    let is = rw (c.kind_of.ensures, over) at c.message_in.ensures in
    record {
      count = search rules;
      each = inherited-pushed (with_message c.args.modules.now) None c.args.forest.now c.loop-k.all.items _ c.loop-k.k _ c.message_in.result c.loop-k-test.true c.loop-k.invariant.count c.loop-k.invariant.each is
          c.in_ok-push.ensures.items;
    }
