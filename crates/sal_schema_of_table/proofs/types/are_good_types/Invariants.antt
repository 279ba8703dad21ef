-- The remaining elements.
use Rattle.std.proofs.Common.{◌≡◌, drop}
use Rattle.std.specs.List.{list_all}
use Rattle.sal_schema.specs.Valid.{is_good_type}
use Rattle.sal_schema_of_table.proofs.types.are_good_types.Given as goal

abbrev pub invariant-loop-ty : goal.invariant-loop-ty
invariant-loop-ty l = list_all (is_good_type l.table) (drop l.ty-index l.types) ≡ list_all (is_good_type l.table) l.types
