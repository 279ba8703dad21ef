-- The least fault of the identities so far.
use Rattle.std.proofs.Common.{◌≡◌, take, None}
use Rattle.std.specs.List.{flat_map}
use Rattle.sal_module.specs.Faults.{least}
use Rattle.sal_module_table.specs.Identities.{seen}
use Rattle.sal_module_table.specs.OldBases.{faults_of}
use Rattle.sal_module_table.proofs.old_bases.fault_among.Given as goal

abbrev pub invariant-loop-one : goal.invariant-loop-one
invariant-loop-one l = l.best ≡ least None (flat_map (faults_of l.old l.typedefs (seen l.all)) (seen (take l.one-index l.all)))
