-- The least fault of the modules so far.
use Rattle.std.proofs.Common.{◌≡◌, take, None, []}
use Rattle.sal_module.specs.Faults.{least}
use Rattle.sal_typedefs.specs.Spots.{site_in}
use Rattle.sal_grouping.proofs.Places.{numbered}
use Rattle.sal_module_table.specs.Types.{faults_in}
use Rattle.sal_module_table.proofs.types.type_fault.Given as goal

abbrev pub invariant-loop-m : goal.invariant-loop-m
invariant-loop-m l = l.best ≡ least None (numbered (λ m stmt. faults_in l.asked 64 l.modules (site_in m [] stmt)) 0 (take l.m l.modules))
