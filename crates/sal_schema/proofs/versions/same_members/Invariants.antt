-- The members are the same where those that are left are.
use Rattle.std.proofs.Common.{◌≡◌, drop}
use Rattle.sal_schema.specs.Same.{same_members}
use Rattle.sal_schema.proofs.versions.same_members.Given as goal

abbrev pub invariant-loop-i : goal.invariant-loop-i
invariant-loop-i l = same_members l.a l.b ≡ same_members (drop l.i l.a) (drop l.i l.b)
