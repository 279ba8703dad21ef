-- Trees along a path, and a tree with another one at a path.
use Rattle.std.specs.Prelude.{ℕ, Bool, false, List, [], ◌∷◌, Option, Some, None}
use Rattle.std.specs.FinMap.{find}
use Rattle.sal_types.specs.declared.value.Step.{Step}
use Rattle.sal_types.specs.declared.value.Cell.{Cell}
use Rattle.sal_types.specs.Order.{step_cmp}
use Rattle.sal_node.specs.Tree.{Tree, bare, pairs, grove, change, IsGrove, is_filled}

abbrev pub kids_in : Option Tree → List (Step × Tree)
kids_in None = []
kids_in (Some t) = pairs t.kids

abbrev pub cell_in : Option Tree → Option Cell
cell_in None = None
cell_in (Some t) = t.cell

abbrev pub kid : Option Tree → Step → Option Tree
kid o x = find step_cmp x (kids_in o)

-- the tree at a path
abbrev pub at : Option Tree → List Step → Option Tree
at o [] = o
at o (x ∷ p) = at (kid o x) p

-- a node, if it has a cell or children
abbrev pub standing : ℕ → Option Cell → List (Step × Tree) → Option Tree
standing s None [] = None
standing s None (e ∷ es) = Some (record { stamp = s; cell = None; kids = grove (e ∷ es) })
standing s (Some c) es = Some (record { stamp = s; cell = Some c; kids = grove es })

-- the tree with another one at the path, or with none; the nodes above get the stamp
abbrev pub grow : ℕ → Option Tree → List Step → Option Tree → Option Tree
grow s o [] new = new
grow s o (x ∷ p) new = standing s (cell_in o) (change x (grow s (kid o x) p new) (kids_in o))

abbrev pub IsSound : Option Tree → Type 0
IsSound None = Unit {0}
IsSound (Some t) = IsGrove t.kids

abbrev pub blank : ℕ → Tree
blank s = record { stamp = s; cell = None; kids = bare }

-- whether there is a node with rows
abbrev pub present : Option Tree → Bool
present None = false
present (Some t) = is_filled t.cell t.kids
