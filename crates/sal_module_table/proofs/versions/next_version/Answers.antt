use Rattle.std.proofs.Common.{arith}
use Rattle.sal_module_table.proofs.FewModules.{modules-few}
use Rattle.sal_module_table.proofs.versions.next_version.Goals as goal

pub overflow_cast-older : goal.overflow_cast-older
overflow_cast-older c = omega (arith, modules-few c.args.stmts.now, c.requires.counted, c.requires.old)
