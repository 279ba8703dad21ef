-- The least fault of the statements so far, in the open block.
use Rattle.std.proofs.Common.{◌≡◌, ◌-◌, take}
use Rattle.std.specs.List.{flat_map}
use Rattle.sal_module.specs.Faults.{least}
use Rattle.sal_module.specs.Statements.{subs_of}
use Rattle.sal_typedefs.specs.Opened.{IsIn}
use Rattle.sal_typedefs.specs.Spots.{site_in}
use Rattle.sal_module_table.specs.Types.{faults_in}
use Rattle.sal_module_table.proofs.types.+with_stmt.Given as goal

abbrev pub decreases-with_stmt : goal.decreases-with_stmt
decreases-with_stmt l = l.levels

abbrev pub invariant-loop-sub : goal.invariant-loop-sub
invariant-loop-sub l =
    IsIn l.judge.typedefs.now l.judge.number l.initial.scope.around.items l.scope
    × (l.best
    ≡ least l.initial.best (flat_map (λ sub. faults_in l.judge.asked (l.levels - 1) l.judge.typedefs.now (site_in l.judge.number l.initial.scope.around.items sub)) (take l.sub-index (subs_of l.stmt))))
