-- The remaining elements.
use Rattle.std.proofs.Common.{◌≡◌, drop}
use Rattle.std.specs.List.{list_any}
use Rattle.sal_module_table.specs.Leafrefs.{is_some_reference, seen_all}
use Rattle.sal_module_table.proofs.leafrefs.has_leafrefs.Given as goal

abbrev pub invariant-loop-own : goal.invariant-loop-own
invariant-loop-own l = list_any is_some_reference (seen_all l.leafrefs) ≡ list_any is_some_reference (seen_all (drop l.own-index l.leafrefs))
