use Rattle.std.proofs.Common.{arith}
use Rattle.sal_module_table.proofs.FewModules.{modules-few}
use Rattle.sal_module_table.proofs.versions.with_table_on.Goals as goal

pub overflow_cast-older : goal.overflow_cast-older
overflow_cast-older c = omega (arith, modules-few c.args.modules.now, c.requires.counted, c.requires.old)
