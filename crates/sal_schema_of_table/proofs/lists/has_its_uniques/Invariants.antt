-- The remaining elements.
use Rattle.std.proofs.Common.{◌≡◌, drop}
use Rattle.std.specs.List.{list_all}
use Rattle.sal_schema_of_table.specs.Whole.{is_unique_leaf}
use Rattle.sal_schema_of_table.proofs.lists.has_its_uniques.Given as goal

abbrev pub invariant-loop-leafs : goal.invariant-loop-leafs
invariant-loop-leafs l = list_all (list_all (is_unique_leaf l.table l.number)) (drop l.leafs-index l.uniques) ≡ list_all (list_all (is_unique_leaf l.table l.number)) l.uniques
