-- The remaining elements.
use Rattle.std.proofs.Common.{◌≡◌, drop}
use Rattle.sal_schema.specs.Table.{all_from}
use Rattle.sal_schema.specs.Valid.{is_good_identity}
use Rattle.sal_schema_of_table.proofs.identity.are_good_identities.Given as goal

abbrev pub invariant-loop-i : goal.invariant-loop-i
invariant-loop-i l = all_from (is_good_identity l.table) l.i (drop l.i l.identities) ≡ all_from (is_good_identity l.table) 0 l.identities
