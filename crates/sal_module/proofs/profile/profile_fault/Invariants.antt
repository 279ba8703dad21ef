use Rattle.std.proofs.Common.{◌≡◌, take, None}
use Rattle.sal_module.specs.Faults.{least}
use Rattle.sal_module.specs.Profile.{module_faults}
use Rattle.sal_module.proofs.Numbered.{numbered}
use Rattle.sal_module.proofs.profile.profile_fault.Given as goal

abbrev pub invariant-loop-i : goal.invariant-loop-i
invariant-loop-i l = l.best ≡ least None (numbered module_faults 0 (take l.i l.stmts))
