-- The tree of checked modules: their nodes, or the first fault. Each check runs only if those before it found nothing.
use Rattle.std.specs.Prelude.{ℕ, nat_lt, List, map, length, Option, Some, None, Result, Ok, Err, if◌then◌else◌}
use Rattle.std.specs.List.{slice_get}
use Rattle.sal_types.specs.Reading.{◌>>=◌}
use Rattle.sal_stmt.specs.declared.stmt.Stmt.{Stmt}
use Rattle.sal_module.specs.declared.fault.BuildFault.{BuildFault}
use Rattle.sal_module.specs.declared.fault.BuildFault.TheVariants.{TooMany}
use Rattle.sal_module.specs.declared.fault.What.TheVariants.{Nodes}
use Rattle.sal_module.specs.declared.fault.Found.{Found}
use Rattle.sal_module.specs.Faults.{least, fault_of}
use Rattle.sal_grouping.specs.declared.rows.Row.{Row}
use Rattle.sal_grouping.specs.declared.forest.Branch.{Branch}
use Rattle.sal_grouping.specs.declared.node.Node.{Node}
use Rattle.sal_grouping.specs.Rows.{rows_of}
use Rattle.sal_grouping.specs.Groupings.{named_of}
use Rattle.sal_grouping.specs.Names.{name_faults}
use Rattle.sal_grouping.specs.Growth.{trees_of}
use Rattle.sal_grouping.specs.Augments.{Progress, augmented, target_faults}
use Rattle.sal_grouping.specs.Children.{child_faults}

abbrev pub judged : {X : Type 0} → X → Option Found → Result X BuildFault
judged x None = Ok x
judged x (Some found) = Err (fault_of found)

-- x if there is no fault, and else the least
abbrev pub unless_any : {X : Type 0} → List Found → X → Result X BuildFault
unless_any faults x = judged x (least None faults)

-- the place of the statement of a node
abbrev pub source_of : Option Row → ℕ
source_of None = 0
source_of (Some row) = row.module

abbrev pub place_of : Option Row → ℕ
place_of None = 0
place_of (Some row) = row.at

abbrev pub branch_of : List Row → Node → Branch
branch_of rows node = record { parent = node.parent; «module» = node.module; source = source_of (slice_get rows node.row); at = place_of (slice_get rows node.row); implied = node.implied }

-- ---- the parts

-- with `uses` and augments applied, and the pending augments
abbrev pub built : List Stmt → List Row → List (Option ℕ) → Progress
built stmts rows named = augmented stmts rows named (trees_of stmts rows named)

abbrev pub sized : Progress → Result Progress BuildFault
sized progress = if nat_lt 65536 (length progress.0) then Err (TooMany Nodes) else Ok progress

abbrev pub expanded : List Stmt → List Row → Result (List Node) BuildFault
expanded stmts rows =
    unless_any (name_faults stmts rows) (built stmts rows (named_of stmts rows)) >>= sized
    >>= (λ progress. unless_any (target_faults rows progress.1) progress.0)
    >>= (λ forest. unless_any (child_faults rows forest) forest)

abbrev pub expand : List Stmt → Result (List Branch) BuildFault
expand stmts = expanded stmts (rows_of stmts) >>= (λ forest. Ok (map (branch_of (rows_of stmts)) forest))
