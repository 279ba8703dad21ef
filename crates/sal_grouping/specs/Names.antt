-- The faults of names: every one of every statement, in any order; the least of them is returned.
use Rattle.std.specs.Prelude.{ℕ, zero, suc, Bool, false, List, [], ◌++◌, map, length, Option, Some, None, is_none, ◌==◌, ◌||◌, slice_index_or, if◌then◌else◌}
use Rattle.std.specs.List.{list_any, flat_map, enumerate_from}
use Rattle.sal_stmt.specs.declared.stmt.Stmt.{Stmt}
use Rattle.sal_module.specs.declared.keyword.Keyword.{Keyword}
use Rattle.sal_module.specs.declared.keyword.Keyword.TheVariants.{Grouping, Uses, Augment, Typedef, Identity}
use Rattle.sal_module.specs.declared.fault.Cause.{Cause}
use Rattle.sal_module.specs.declared.fault.Cause.TheVariants.{UnknownName, NameCycle, DoubleNode}
use Rattle.sal_module.specs.declared.fault.Found.{Found}
use Rattle.sal_module.specs.Profile.{at_place}
use Rattle.sal_module.specs.Imports.{reaches}
use Rattle.sal_grouping.specs.declared.rows.Row.{Row}
use Rattle.sal_grouping.specs.Rows.{option_list, is_block, around_of, keyword_at, is_keyword, first_of}
use Rattle.sal_grouping.specs.Groupings.{Step, path_of, named_by}

-- a fault at a statement
abbrev pub at_row : Cause → Row → List Found
at_row cause row = at_place cause row.module row.at

-- ---- unknown names

abbrev pub unknown_faults : List Stmt → List Row → Row → List Found
unknown_faults stmts rows row = if is_none (named_by stmts rows row) then at_row UnknownName row else []

-- an unknown prefix in the path of an augment
abbrev pub path_faults : List Stmt → Row → List Found
path_faults stmts row = if list_any (λ (step : Step). is_none step.0) (path_of stmts row) then at_row UnknownName row else []

-- ---- groupings that use themselves

-- the closest grouping in at most n blocks, from this one outwards
unfoldable pub home : ℕ → List Row → Option ℕ → Option ℕ
home zero rows block = None
home (suc n) rows None = None
home (suc n) rows (Some b) = if is_keyword Grouping (keyword_at rows b) then Some b else home n rows (around_of rows b)

abbrev pub home_of : List Row → Row → Option ℕ
home_of rows row = home 65 rows row.around

-- the groupings that the statements directly inside a grouping name: those whose closest grouping it is
abbrev pub used_in : List Stmt → List Row → ℕ → List ℕ
used_in stmts rows g = flat_map (λ (row : Row). if is_block g (home_of rows row) then option_list (named_by stmts rows row) else []) rows

-- the edges of each statement; only a grouping has any
abbrev pub edges_of : List Stmt → List Row → List (List ℕ)
edges_of stmts rows = map (λ (entry : ℕ × Row). used_in stmts rows entry.0) (enumerate_from 0 rows)

-- A grouping uses itself if it names itself, or one that reaches it. A shortest path visits no grouping twice.
abbrev pub reaches_home : List (List ℕ) → ℕ → Option ℕ → Option ℕ → Bool
reaches_home edges n (Some g) (Some used) = used == g || reaches edges n g (slice_index_or edges used [])
reaches_home edges n g used = false

abbrev pub is_cyclic : List Stmt → List Row → Option ℕ → Option ℕ → Bool
is_cyclic stmts rows g used = reaches_home (edges_of stmts rows) (length rows) g used

-- a `uses` through which the closest grouping around it uses itself
abbrev pub cycle_faults : List Stmt → List Row → Row → List Found
cycle_faults stmts rows row = if is_cyclic stmts rows (home_of rows row) (named_by stmts rows row) then at_row NameCycle row else []

-- ---- names that must be unique

-- a definition that is not the first of its keyword and name in its block
abbrev pub double_faults : List Row → ℕ → Row → Option ℕ → List Found
double_faults rows k row None = []
double_faults rows k row (Some b) = if is_block k (first_of rows row.keyword b row.name) then [] else at_row DoubleNode row

-- ---- all of them

abbrev pub row_faults : List Stmt → List Row → ℕ → Row → Keyword → List Found
row_faults stmts rows k row Uses = unknown_faults stmts rows row ++ cycle_faults stmts rows row
row_faults stmts rows k row Augment = path_faults stmts row
row_faults stmts rows k row Typedef = double_faults rows k row row.around
row_faults stmts rows k row Grouping = double_faults rows k row row.around
row_faults stmts rows k row Identity = double_faults rows k row row.around
row_faults stmts rows k row keyword = []

abbrev pub name_faults : List Stmt → List Row → List Found
name_faults stmts rows = flat_map (λ (entry : ℕ × Row). row_faults stmts rows entry.0 entry.1 entry.1.keyword) (enumerate_from 0 rows)
