-- The targets of the leafrefs so far.
use Rattle.std.proofs.Common.{◌≡◌, take}
use Rattle.std.specs.List.{flat_map}
use Rattle.std.specs.Option.{option_to_list}
use Rattle.sal_module_table.specs.Leafrefs.{seen, target_of}
use Rattle.sal_module_table.proofs.leafrefs.targets_of.Given as goal

abbrev pub invariant-loop-leafref : goal.invariant-loop-leafref
invariant-loop-leafref l = l.targets.items ≡ flat_map (λ one. option_to_list (target_of l.paths.modules.now l.paths.forest.now l.k l.branch one)) (seen (take l.leafref-index l.leafrefs))
