-- The places at which the children of two nodes differ by their stamps.
use Rattle.std.specs.Prelude.{◌≡◌, ℕ, ◌+◌, ◌≤◌, ◌==◌, Bool, true, false, ◌||◌, List, [], ◌∷◌, ◌++◌, Option, Some, None, is_some, if◌then◌else◌}
use Rattle.std.specs.Ordering.{match_ordering}
use Rattle.sal_types.specs.declared.value.Step.{Step}
use Rattle.sal_types.specs.Order.{step_cmp}
use Rattle.sal_node.specs.Tree.{Tree, height}
use Rattle.sal_node.specs.Shape.{tree_at}
use Rattle.sal_tree.specs.Grow.{at, kid, IsSound}
use Rattle.sal_rows.specs.declared.change.Change.{Change}
use Rattle.sal_delta.specs.declared.compare.Place.{Place}
use Rattle.sal_delta.specs.Merge.{rows_at, from_step, merge}

-- a step with the nodes there before and after
abbrev pub Spot : Type 0
Spot = Step × (Option Tree × Option Tree)

abbrev pub spots : List Place → List Spot
spots [] = []
spots (p ∷ ps) = (p.step.now, (tree_at p.before, tree_at p.after)) ∷ spots ps

-- the result for the first of the children: the places where they differ, and how many of each were compared
abbrev pub pair_of : Step × Tree → Step × Tree → List Spot × (ℕ × ℕ)
pair_of e f = ((if e.1.stamp == f.1.stamp then [] else ((e.0, (Some e.1, Some f.1)) ∷ [])), (1, 1))

abbrev pub next_of : List (Step × Tree) → List (Step × Tree) → List Spot × (ℕ × ℕ)
next_of [] [] = ([], (0, 0))
next_of (e ∷ es) [] = ((e.0, (Some e.1, None)) ∷ [], (1, 0))
next_of [] (f ∷ fs) = ((f.0, (None, Some f.1)) ∷ [], (0, 1))
next_of (e ∷ es) (f ∷ fs) = match_ordering (step_cmp e.0 f.0) ((e.0, (Some e.1, None)) ∷ [], (1, 0)) (pair_of e f) ((f.0, (None, Some f.1)) ∷ [], (0, 1))

-- whether no child is left
abbrev pub is_over : List (Step × Tree) → List (Step × Tree) → Bool
is_over [] [] = true
is_over [] (f ∷ fs) = false
is_over (e ∷ es) fs = false

-- the changes at the places
abbrev pub noted : List Spot → List Change
noted [] = []
noted (s ∷ ss) = from_step s.0 (merge (rows_at s.1.0) (rows_at s.1.1)) ++ noted ss

-- if there is one, it is the child
abbrev pub IsKid : Option Tree → Step → Option Tree → Type 0
IsKid o x None = Unit {0}
IsKid o x (Some t) = kid o x ≡ Some t

-- each place has children of the two nodes, at least of one
abbrev pub AreSpots : Option Tree → Option Tree → List Spot → Type 0
AreSpots o u [] = Unit {0}
AreSpots o u (s ∷ ss) = (IsKid o s.0 s.1.0 × IsKid u s.0 s.1.1 × ((is_some s.1.0 || is_some s.1.1) ≡ true)) × AreSpots o u ss

abbrev pub depth_of : Option Tree → ℕ
depth_of None = 0
depth_of (Some t) = height t.kids

-- a node that may be n steps below the root
pub record Stands (o : Option Tree) (n : ℕ) : Type 0 where
  pub sound : IsSound o
  pub low : depth_of o + n ≤ 32

-- below these two nodes, nodes at one path with one stamp are the same
abbrev pub AgreeFrom : Option Tree → Option Tree → Type 0
AgreeFrom o u = (r : List Step) (n m : Tree) → at o r ≡ Some n → at u r ≡ Some m → n.stamp ≡ m.stamp → n ≡ m
