-- The values so far.
use Rattle.std.proofs.Common.{◌≡◌, map, take}
use Rattle.sal_typedefs.specs.Leafrefs.{leafref_seen}
use Rattle.sal_module_table.proofs.typed.copies.Given as goal

abbrev pub invariant-loop-leafref : goal.invariant-loop-leafref
invariant-loop-leafref l = map leafref_seen l.all.items ≡ map leafref_seen (take l.leafref-index l.list)
