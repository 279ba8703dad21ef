use Rattle.std.proofs.Common.{sym}
use Rattle.sal_typedefs.specs.Opened.{world_of}
use Rattle.sal_typedefs.proofs.tops.settle_modules.Goals as goal

pub loop-m-init : goal.loop-m-init
loop-m-init c = c.in_ok-kept.ensures (world_of c.args.means.now) (sym c.stmts.ensures)
