use Rattle.std.proofs.Common.{sym}
use Rattle.sal_schema.proofs.Sameness.{members-short}
use Rattle.sal_schema.proofs.versions.same_members.Goals as goal

pub returns-then-a-b : goal.returns-then-a-b
returns-then-a-b c = sym (members-short c.args.a.now c.args.b.now c.if-a-b.true)
