-- The tree of nodes, numbered depth first in the order of the text, with `uses` applied (RFC 7950 section 7.13).
use Rattle.std.specs.Prelude.{ℕ, zero, suc, ◌*◌, Bool, true, false, List, [], ◌∷◌, ◌++◌, map, find, fold, length, Option, Some, None, unwrap_or, if◌then◌else◌}
use Rattle.std.specs.List.{slice_get, flat_map}
use Rattle.sal_stmt.specs.declared.stmt.Stmt.{Stmt}
use Rattle.sal_module.specs.declared.keyword.Keyword.{Keyword}
use Rattle.sal_module.specs.declared.keyword.Keyword.TheVariants.{Container, Leaf, LeafList, List as ListOf, Choice, Case, Rpc, Input, Output, Notification}
use Rattle.sal_grouping.specs.declared.rows.Row.{Row}
use Rattle.sal_grouping.specs.declared.forest.Implied.{Implied}
use Rattle.sal_grouping.specs.declared.forest.Implied.TheVariants as implied
use Rattle.sal_grouping.specs.declared.node.Node.{Node}
use Rattle.sal_grouping.specs.Rows.{top_of, option_list, inside, keyword_at, is_keyword}

-- ---- the nodes of a block

-- statements that make a node of their block: `input` and `output` do so only in an RPC
abbrev pub is_node : Option Keyword → Bool
is_node (Some Container) = true
is_node (Some Leaf) = true
is_node (Some LeafList) = true
is_node (Some ListOf) = true
is_node (Some Choice) = true
is_node (Some Case) = true
is_node (Some Rpc) = true
is_node (Some Notification) = true
is_node keyword = false

-- the grouping that a statement names, or none
abbrev pub used_by : List (Option ℕ) → ℕ → List ℕ
used_by named k = option_list (unwrap_or (slice_get named k) None)

-- The nodes that a statement adds to its block: itself, or those of the groupings that it names.
abbrev pub nodes_at : (ℕ → List ℕ) → List Row → List (Option ℕ) → ℕ → List ℕ
nodes_at within rows named k = if is_node (keyword_at rows k) then k ∷ [] else flat_map within (used_by named k)

-- The statements of the nodes directly in a block, with at most n levels of `uses` applied. A chain of `uses`
-- without a cycle names no grouping twice, so the number of statements is enough.
unfoldable pub nodes_within : ℕ → List Row → List (Option ℕ) → ℕ → List ℕ
nodes_within zero rows named b = []
nodes_within (suc n) rows named b = flat_map (nodes_at (nodes_within n rows named) rows named) (inside rows b)

abbrev pub nodes_in : List Row → List (Option ℕ) → ℕ → List ℕ
nodes_in rows named b = nodes_within (length rows) rows named b

-- ---- the children of a node

-- a node to be added: a statement, and the kind of an implied node around it or in it
abbrev pub Seed : Type 0
Seed = ℕ × Option Implied

abbrev pub plain : ℕ → Seed
plain k = (k, None)

-- a node directly in a choice that is not a case gets an implied one
abbrev pub in_choice : List Row → ℕ → Seed
in_choice rows k = if is_keyword Case (keyword_at rows k) then (k, None) else (k, Some implied.Case)

-- the `input` or `output` of an RPC, written or implied
abbrev pub param_or : ℕ → Implied → Option ℕ → Seed
param_or rpc side None = (rpc, Some side)
param_or rpc side (Some k) = (k, None)

abbrev pub param : List Row → ℕ → Keyword → Implied → Seed
param rows rpc keyword side = param_or rpc side (find (λ k. is_keyword keyword (keyword_at rows k)) (inside rows rpc))

abbrev pub params : List Row → ℕ → List Seed
params rows rpc = param rows rpc Input implied.Input ∷ param rows rpc Output implied.Output ∷ []

-- the nodes of a block, as children of a node of this keyword
abbrev pub seeds_in : List Row → List (Option ℕ) → Option Keyword → ℕ → List Seed
seeds_in rows named (Some Choice) b = map (in_choice rows) (nodes_in rows named b)
seeds_in rows named keyword b = map plain (nodes_in rows named b)

abbrev pub below_row : List Row → List (Option ℕ) → Option Keyword → ℕ → List Seed
below_row rows named (Some Rpc) k = params rows k
below_row rows named keyword k = seeds_in rows named keyword k

-- the children of a node: of an implied case the node itself, of an implied input or output none
abbrev pub below : List Row → List (Option ℕ) → Seed → List Seed
below rows named (k, None) = below_row rows named (keyword_at rows k) k
below rows named (k, Some implied.Case) = plain k ∷ []
below rows named (k, Some other) = []

-- ---- growth

abbrev pub node_of : ℕ → Option ℕ → Seed → Node
node_of owner parent (k, implied) = record { parent = parent; «module» = owner; row = k; implied = implied }

-- The forest with these nodes and at most n levels from them on appended, as children of a node, each of this module. Each node
-- comes before those below it, and these before the next one.
unfoldable pub grow : ℕ → List Row → List (Option ℕ) → ℕ → Option ℕ → List Node → List Seed → List Node
grow zero rows named owner parent forest seeds = forest
grow (suc n) rows named owner parent forest seeds =
    fold (λ grown seed. grow n rows named owner (Some (length grown)) (grown ++ node_of owner parent seed ∷ []) (below rows named seed)) forest seeds

-- A path down the tree has each statement once, and once more for an implied case.
abbrev pub grown : List Row → List (Option ℕ) → ℕ → Option ℕ → List Node → List Seed → List Node
grown rows named owner parent forest seeds = grow (2 * length rows) rows named owner parent forest seeds

-- and the nodes of a module
abbrev pub module_grown : List Stmt → List Row → List (Option ℕ) → List Node → ℕ → List Node
module_grown stmts rows named forest m = grown rows named m None forest (seeds_in rows named None (top_of stmts m))

-- the nodes of the first m modules
unfoldable pub trees_until : ℕ → List Stmt → List Row → List (Option ℕ) → List Node
trees_until zero stmts rows named = []
trees_until (suc m) stmts rows named = module_grown stmts rows named (trees_until m stmts rows named) m

-- and of all, without augments
abbrev pub trees_of : List Stmt → List Row → List (Option ℕ) → List Node
trees_of stmts rows named = trees_until (length stmts) stmts rows named
