-- Augments (RFC 7950 section 7.17), applied in rounds.
use Rattle.std.specs.Prelude.{ℕ, zero, suc, Bool, true, false, not, ◌&&◌, ◌==◌, List, [], ◌∷◌, ◌++◌, fold, find, length, nat_lt, is_some, Option, Some, None, option_and_then, option_map, unwrap_or, if◌then◌else◌, codes}
use Rattle.std.specs.List.{slice_get, flat_map, enumerate_from, position_from}
use Rattle.sal_stmt.specs.declared.stmt.Stmt.{Stmt}
use Rattle.sal_module.specs.declared.keyword.Keyword.{Keyword}
use Rattle.sal_module.specs.declared.keyword.Keyword.TheVariants.{Container, List as ListOf, Choice, Case, Input, Output, Notification, Augment}
use Rattle.sal_module.specs.declared.fault.Cause.TheVariants.{BadTarget}
use Rattle.sal_module.specs.declared.fault.Found.{Found}
use Rattle.sal_module.specs.Keywords.{same, same_keyword}
use Rattle.sal_grouping.specs.declared.rows.Row.{Row}
use Rattle.sal_grouping.specs.declared.forest.Implied.{Implied}
use Rattle.sal_grouping.specs.declared.forest.Implied.TheVariants as implied
use Rattle.sal_grouping.specs.declared.node.Node.{Node}
use Rattle.sal_grouping.specs.Rows.{is_block, inside, keyword_at, is_keyword}
use Rattle.sal_grouping.specs.Groupings.{Step, path_of}
use Rattle.sal_grouping.specs.Names.{at_row}
use Rattle.sal_grouping.specs.Growth.{nodes_in, seeds_in, grown}

-- ---- a node and its name

abbrev pub kind_among : Option Keyword → Option Implied → Option Keyword
kind_among keyword None = keyword
kind_among keyword (Some implied.Case) = Some Case
kind_among keyword (Some implied.Input) = Some Input
kind_among keyword (Some implied.Output) = Some Output

-- the keyword of its statement, or the implied one
abbrev pub kind_of : List Row → Node → Option Keyword
kind_of rows node = kind_among (keyword_at rows node.row) node.implied

abbrev pub name_among : List ℕ → Option Keyword → List ℕ
name_among name (Some Input) = codes "input"
name_among name (Some Output) = codes "output"
name_among name keyword = name

abbrev pub row_name : List Row → ℕ → List ℕ
row_name rows k = unwrap_or (option_map (λ (row : Row). row.name) (slice_get rows k)) []

-- an implied case has the name of its node
abbrev pub name_of : List Row → Node → List ℕ
name_of rows node = name_among (row_name rows node.row) (kind_of rows node)

-- ---- targets

abbrev pub same_place : Option ℕ → Option ℕ → Bool
same_place None None = true
same_place (Some a) (Some b) = a == b
same_place a b = false

-- this step leads from the parent to the node
abbrev pub is_child : List Row → Option ℕ → Step → Node → Bool
is_child rows parent step node = (same_place node.parent parent && is_block node.module step.0) && same (name_of rows node) step.1

-- of several children, the one with the smallest number
abbrev pub child_of : List Row → List Node → Option ℕ → Step → Option ℕ
child_of rows forest parent step = position_from (is_child rows parent step) 0 forest

-- the node to which a path leads from this one, or from the top
abbrev pub follow : List Row → List Node → Option ℕ → List Step → Option ℕ
follow rows forest from [] = from
follow rows forest from (step ∷ path) = option_and_then (λ k. follow rows forest (Some k) path) (child_of rows forest from step)

-- ---- which nodes a node may have

-- any but cases
abbrev pub holds_data : Option Keyword → Bool
holds_data (Some Container) = true
holds_data (Some ListOf) = true
holds_data (Some Case) = true
holds_data (Some Input) = true
holds_data (Some Output) = true
holds_data (Some Notification) = true
holds_data kind = false

-- A `case` is in a choice or in an augment itself, so no `uses` adds one.
abbrev pub has_case : List Row → ℕ → Bool
has_case rows k = is_some (find (λ j. is_keyword Case (keyword_at rows j)) (inside rows k))

-- whether a node of this keyword may have the nodes of an augment; the last argument says whether the augment has nodes
abbrev pub can_hold : List Row → Option Keyword → ℕ → Bool → Bool
can_hold rows kind k false = true
can_hold rows (Some Choice) k true = true
can_hold rows kind k true = holds_data kind && not (has_case rows k)

abbrev pub has_nodes : List Row → List (Option ℕ) → ℕ → Bool
has_nodes rows named k = nat_lt 0 (length (nodes_in rows named k))

-- ---- rounds

-- the forest with the nodes of this augment appended, if its target may have them
abbrev pub carried_to : List Row → List (Option ℕ) → ℕ → ℕ → List Node → ℕ → Option Keyword → Option (List Node)
carried_to rows named owner k forest target kind =
    if can_hold rows kind k (has_nodes rows named k) then Some (grown rows named owner (Some target) forest (seeds_in rows named kind k)) else None

-- and if it has a target
abbrev pub carried_at : List Row → List (Option ℕ) → ℕ → ℕ → List Node → Option ℕ → Option (List Node)
carried_at rows named owner k forest None = None
carried_at rows named owner k forest (Some target) =
    carried_to rows named owner k forest target (option_and_then (kind_of rows) (slice_get forest target))

abbrev pub carried : List Stmt → List Row → List (Option ℕ) → List Node → ℕ → Option Row → Option (List Node)
carried stmts rows named forest k None = None
carried stmts rows named forest k (Some row) = carried_at rows named row.module k forest (follow rows forest None (path_of stmts row))

-- the forest, and the pending augments
abbrev pub Progress : Type 0
Progress = List Node × List ℕ

abbrev pub after_try : Progress → ℕ → Option (List Node) → Progress
after_try progress k None = (progress.0, progress.1 ++ k ∷ [])
after_try progress k (Some forest) = (forest, progress.1)

-- The pending augments are tried one after another. One that was applied can make the target of a later one.
abbrev pub tried : List Stmt → List Row → List (Option ℕ) → Progress → ℕ → Progress
tried stmts rows named now k = after_try now k (carried stmts rows named now.0 k (slice_get rows k))

abbrev pub round : List Stmt → List Row → List (Option ℕ) → Progress → Progress
round stmts rows named progress = fold (tried stmts rows named) (progress.0, []) progress.1

-- Rounds end when one applies no augment. The number of augments is enough rounds.
unfoldable pub rounds : ℕ → List Stmt → List Row → List (Option ℕ) → Progress → Progress
rounds zero stmts rows named progress = progress
rounds (suc n) stmts rows named progress =
    if length (round stmts rows named progress).1 == length progress.1 then round stmts rows named progress
    else rounds n stmts rows named (round stmts rows named progress)

abbrev pub augment_at : ℕ → Row → List ℕ
augment_at k row = if same_keyword row.keyword Augment then k ∷ [] else []

abbrev pub augments_of : List Row → List ℕ
augments_of rows = flat_map (λ (entry : ℕ × Row). augment_at entry.0 entry.1) (enumerate_from 0 rows)

abbrev pub augmented : List Stmt → List Row → List (Option ℕ) → List Node → Progress
augmented stmts rows named forest = rounds (length (augments_of rows)) stmts rows named (forest, augments_of rows)

-- the augments that no round applied
abbrev pub target_faults_at : Option Row → List Found
target_faults_at None = []
target_faults_at (Some row) = at_row BadTarget row

abbrev pub target_faults : List Row → List ℕ → List Found
target_faults rows left = flat_map (λ k. target_faults_at (slice_get rows k)) left
