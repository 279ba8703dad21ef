use Rattle.std.proofs.Common.{◌≡◌, take}
use Rattle.std.specs.List.{flat_map}
use Rattle.sal_module.specs.Faults.{least}
use Rattle.sal_module.specs.Profile.{entry_faults}
use Rattle.sal_module.proofs.profile.with_entries.Given as goal

abbrev pub invariant-loop-part : goal.invariant-loop-part
invariant-loop-part l =
    l.best ≡ least l.initial.best (flat_map (entry_faults l.number l.stmt) (flat_map (λ part. part.now) (take l.part-index l.rule.1.now)))
