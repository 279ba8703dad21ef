-- The members that are left.
use Rattle.std.proofs.Common.{◌≡◌, ◌++◌, drop}
use Rattle.sal_module_table.specs.Filled.{filled_members}
use Rattle.sal_module_table.proofs.fill.filled_members.Given as goal

abbrev pub invariant-loop-member : goal.invariant-loop-member
invariant-loop-member l = filled_members l.members l.types ≡ l.out.items ++ filled_members (drop l.member-index l.members) l.rest
