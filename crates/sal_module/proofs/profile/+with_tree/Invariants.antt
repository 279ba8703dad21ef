use Rattle.std.proofs.Common.{◌≡◌, ◌-◌, take}
use Rattle.std.specs.List.{flat_map}
use Rattle.sal_module.specs.Faults.{least}
use Rattle.sal_module.specs.Statements.{subs_of}
use Rattle.sal_module.proofs.Levels.{below}
use Rattle.sal_module.proofs.profile.+with_tree.Given as goal

abbrev pub invariant-loop-sub : goal.invariant-loop-sub
invariant-loop-sub l = l.best ≡ least l.initial.best (flat_map (below l.number (l.levels - 1) l.stmt) (take l.sub-index (subs_of l.stmt)))
