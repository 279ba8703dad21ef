-- The remaining elements.
use Rattle.std.proofs.Common.{◌≡◌, drop}
use Rattle.std.specs.List.{list_all}
use Rattle.sal_schema_of_table.specs.Whole.{is_good_member}
use Rattle.sal_schema_of_table.proofs.types.are_good_members.Given as goal

abbrev pub invariant-loop-member : goal.invariant-loop-member
invariant-loop-member l = list_all (is_good_member l.table) (drop l.member-index l.members) ≡ list_all (is_good_member l.table) l.members
