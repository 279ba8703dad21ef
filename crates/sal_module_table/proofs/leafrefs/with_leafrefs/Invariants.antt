-- The least fault of the leafrefs so far.
use Rattle.std.proofs.Common.{◌≡◌, take}
use Rattle.std.specs.List.{flat_map}
use Rattle.sal_module.specs.Faults.{least}
use Rattle.sal_grouping.specs.Indexes.{lists}
use Rattle.sal_module_table.specs.Leafrefs.{seen, leafref_faults}
use Rattle.sal_module_table.proofs.leafrefs.with_leafrefs.Given as goal

abbrev pub invariant-loop-leafref : goal.invariant-loop-leafref
invariant-loop-leafref l = l.best ≡ least l.initial.best (flat_map (leafref_faults l.paths.modules.now l.paths.forest.now (lists l.circles.edges.now) l.k l.branch) (seen (take l.leafref-index l.leafrefs)))
