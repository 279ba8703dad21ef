use Rattle.std.proofs.Common.{true, Some, rules}
use Rattle.sal_module_table.specs.Inherited.{with_config}
use Rattle.sal_module_table.proofs.Above.{inherited-pushed}
use Rattle.sal_module_table.proofs.inherited.configs_of.Goals as goal

pub loop-k-preserved : goal.loop-k-preserved
loop-k-preserved c =
    let over = rw c.deref.ensures.value at c.config_over-over.ensures in
    let is = rw over at c.config_of.ensures in
    record {
      count = search rules;
      each = inherited-pushed (with_config c.args.modules.now) (Some true) c.args.forest.now c.loop-k.all.items _ c.loop-k.k _ c.config_of.result c.loop-k-test.true c.loop-k.invariant.count c.loop-k.invariant.each is
          c.in_ok-push.ensures.items;
    }
