use Rattle.std.proofs.Common.{sym}
use Rattle.sal_report.proofs.replies.push_fault.Goals as goal

-- The number is the fault's own.
pub returns-in-WrongVersion : goal.returns-in-WrongVersion
returns-in-WrongVersion c = rw (c.in-WrongVersion.is, sym c.from-in-WrongVersion.ensures) c.push_numbered-in-WrongVersion.ensures
