use Rattle.std.proofs.Common.{sym, arith}
use Rattle.sal_report.proofs.Children.{none_past}
use Rattle.sal_report.proofs.services.child_at.Goals as goal

pub returns-then-node-len : goal.returns-then-node-len
returns-then-node-len c = sym (none_past c.args.schema.now c.args.node c.args.place c.len.ensures.table (omega (arith, c.len.ensures.count, c.if-node-len.true)))
