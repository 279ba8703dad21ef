-- The requirements of the statements so far, in the open block.
use Rattle.std.proofs.Common.{◌≡◌, ◌-◌, ◌++◌, take}
use Rattle.std.specs.List.{flat_map}
use Rattle.sal_module.specs.Statements.{subs_of}
use Rattle.sal_typedefs.specs.Opened.{IsIn}
use Rattle.sal_typedefs.specs.Spots.{site_in}
use Rattle.sal_module_table.specs.Typed.{owns, owns_in}
use Rattle.sal_module_table.proofs.typed.+push_stmt.Given as goal

abbrev pub decreases-push_stmt : goal.decreases-push_stmt
decreases-push_stmt l = l.levels

abbrev pub invariant-loop-sub : goal.invariant-loop-sub
invariant-loop-sub l =
    IsIn l.keeper.typedefs.now l.keeper.number l.initial.scope.around.items l.scope
    × (owns l.all.items ≡ owns l.initial.all.items
    ++ flat_map (λ sub. owns_in l.keeper.wanted.now (l.levels - 1) l.keeper.typedefs.now (site_in l.keeper.number l.initial.scope.around.items sub)) (take l.sub-index (subs_of l.stmt)))
