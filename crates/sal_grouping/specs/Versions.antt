-- The nodes of a later version of modules. Those of the earlier version keep their numbers; the trees of the new modules follow, then the
-- nodes of the new modules' augments.
use Rattle.std.specs.Prelude.{ℕ, zero, suc, ◌+◌, ◌-◌, nat_le, List, [], length, Option, Result, if◌then◌else◌}
use Rattle.std.specs.List.{flat_map, enumerate_from}
use Rattle.sal_types.specs.Reading.{◌>>=◌}
use Rattle.sal_stmt.specs.declared.stmt.Stmt.{Stmt}
use Rattle.sal_module.specs.declared.fault.BuildFault.{BuildFault}
use Rattle.sal_grouping.specs.declared.node.Node.{Node}
use Rattle.sal_grouping.specs.declared.rows.Row.{Row}
use Rattle.sal_grouping.specs.Augments.{Progress, augment_at, rounds, target_faults}
use Rattle.sal_grouping.specs.Children.{child_faults}
use Rattle.sal_grouping.specs.Expand.{sized, unless_any}
use Rattle.sal_grouping.specs.Groupings.{named_of}
use Rattle.sal_grouping.specs.Growth.{module_grown}
use Rattle.sal_grouping.specs.Rows.{rows_of}

-- ---- the additions

-- these nodes, then those of n modules, the first of which has the index `old`
unfoldable pub trees_from : ℕ → List Stmt → List Row → List (Option ℕ) → ℕ → List Node → List Node
trees_from zero stmts rows named old before = before
trees_from (suc n) stmts rows named old before = module_grown stmts rows named (trees_from n stmts rows named old before) (old + n)

-- the augments of the modules from index `old` on
abbrev pub new_augment_at : ℕ → ℕ → Row → List ℕ
new_augment_at old k row = if nat_le old row.module then augment_at k row else []

abbrev pub new_augments : ℕ → List Row → List ℕ
new_augments old rows = flat_map (λ (entry : ℕ × Row). new_augment_at old entry.0 entry.1) (enumerate_from 0 rows)

-- the new augments applied in rounds, and the pending ones
abbrev pub carried_on : List Stmt → List Row → List (Option ℕ) → ℕ → List Node → Progress
carried_on stmts rows named old forest = rounds (length (new_augments old rows)) stmts rows named (forest, new_augments old rows)

-- the nodes with those of the modules from index `old` on, and of their augments
abbrev pub grown_on : List Stmt → List Row → List (Option ℕ) → ℕ → List Node → Progress
grown_on stmts rows named old before = carried_on stmts rows named old (trees_from (length stmts - old) stmts rows named old before)

-- ---- the nodes of a version

-- of all these modules, of which the first `old` are those of the earlier version, whose nodes are `before`
abbrev pub nodes_on : List Stmt → ℕ → List Node → Progress
nodes_on stmts old before = grown_on stmts (rows_of stmts) (named_of stmts (rows_of stmts)) old before

-- if no augment is pending and no two children have one name
abbrev pub closed_on : List Row → Progress → Result (List Node) BuildFault
closed_on rows progress = unless_any (target_faults rows progress.1) progress.0 >>= (λ forest. unless_any (child_faults rows forest) forest)

-- and if it does not exceed the limit; names have no fault
abbrev pub judged_on : List Row → Progress → Result (List Node) BuildFault
judged_on rows progress =
    sized progress >>= (λ p. unless_any (target_faults rows p.1) p.0) >>= (λ forest. unless_any (child_faults rows forest) forest)

abbrev pub expanded_on : List Stmt → ℕ → List Node → Result (List Node) BuildFault
expanded_on stmts old before = judged_on (rows_of stmts) (nodes_on stmts old before)
