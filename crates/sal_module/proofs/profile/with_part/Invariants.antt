use Rattle.std.proofs.Common.{◌≡◌, take}
use Rattle.std.specs.List.{flat_map}
use Rattle.sal_module.specs.Faults.{least}
use Rattle.sal_module.specs.Profile.{entry_faults}
use Rattle.sal_module.proofs.profile.with_part.Given as goal

abbrev pub invariant-loop-entry : goal.invariant-loop-entry
invariant-loop-entry l = l.best ≡ least l.initial.best (flat_map (entry_faults l.number l.stmt) (take l.entry-index l.part))
