use Rattle.std.proofs.Common.{ap, ◌∙◌}
use Rattle.sal_rows.specs.Patch.{with_parts}
use Rattle.sal_listen.proofs.Patches.{carries-on}
use Rattle.sal_listen.proofs.mirror.Mirror.take.Goals as goal

pub returns-clause-committed : goal.returns-clause-committed
returns-clause-committed c = carries-on c.args.batch.now c.args.self.now.rows c.in-Ok.rows (c.in-Ok.ensures ∙ ap (with_parts c.args.self.now.rows) c.items.ensures)
