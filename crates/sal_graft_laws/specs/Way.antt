-- Which nodes a commit makes: those on the paths to the rows that it touches.
use Rattle.std.specs.Prelude.{◌≡◌, ℕ, ◌+◌, ◌*◌, ◌<◌, ◌≤◌, List, [], ◌∷◌, ◌++◌, length, map, All, Contains, Some, is_some, slice_index_or, if◌then◌else◌}
use Rattle.std.specs.List.{filter}
use Rattle.sal_types.specs.declared.value.Store.{Store}
use Rattle.sal_types.specs.declared.value.Step.{Step}
use Rattle.sal_types.specs.declared.row.Row.{Row}
use Rattle.sal_rows.specs.declared.op.Op.{Op}
use Rattle.sal_rows.specs.Apply.{act_setting, rows_of_act, same_store}
use Rattle.sal_node.specs.Tree.{Tree}
use Rattle.sal_tree.specs.Grow.{at}
use Rattle.sal_tree.specs.declared.commit.Commit.{Commit}
use Rattle.sal_graft.specs.Following.{AreFollowing, stamp_of}
use Rattle.sal_graft.specs.Kept.{rows_in, tree_in}

-- the prefixes of a path: the root, and one for each of its steps
abbrev pub way : List Step → List (List Step)
way [] = [] ∷ []
way (x ∷ p) = [] ∷ map (λ q. x ∷ q) (way p)

abbrev pub ways : List (List Step) → List (List Step)
ways [] = []
ways (p ∷ ps) = way p ++ ways ps

abbrev pub paths : List Row → List (List Step)
paths rows = map (λ (row : Row). row.path) rows

-- the paths of the rows that an operation touches: those that it names, and those before it at which it sets something
abbrev pub paths_by : List Row → Op → List (List Step)
paths_by before op = paths (rows_of_act op.act) ++ paths (filter (λ row. is_some (act_setting op.path op.act row.path)) before)

-- those of a commit with these operations, in the store
abbrev pub paths_of : List Row → Store → List Op → List (List Step)
paths_of before s [] = []
paths_of before s (op ∷ ops) = (if same_store op.store s then paths_by before op else []) ++ paths_of before s ops

-- a node with the stamp of a commit is on the path to a row that the commit touches
abbrev pub StampsLieOnTheWay : Type 0
StampsLieOnTheWay =
    (commits : List Commit) (k : ℕ) (c d : Commit) (s : Store) (p : List Step) (n : Tree) → AreFollowing commits → k + 1 < length commits → c ≡ slice_index_or commits k c → d ≡ slice_index_or commits (k + 1) d
    → at (Some (tree_in d.trees s)) p ≡ Some n → n.stamp ≡ stamp_of d.receipt → Contains (ways (paths_of (rows_in c.trees s) s d.ops.value)) p

-- the paths to rows with at most 32 steps have at most 33 nodes for each row
abbrev pub WaysAreFew : Type 0
WaysAreFew = (ps : List (List Step)) → All (λ p. length p ≤ 32) ps → length (ways ps) ≤ 33 * length ps
