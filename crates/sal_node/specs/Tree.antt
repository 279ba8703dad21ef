-- How a contract sees a node: a stamp, a cell, and children in the order of their steps.
use Rattle.std.specs.Prelude.{ℕ, ◌+◌, Bool, true, false, List, [], ◌∷◌, Option, Some, None, T, max}
use Rattle.std.specs.FinMap.{find, put}
use Rattle.std.specs.FinMap.Entries.{below_all, by_order}
use Rattle.sal_types.specs.declared.value.Step.{Step}
use Rattle.sal_types.specs.declared.value.Cell.{Cell}
use Rattle.sal_types.specs.Order.{step_cmp}

-- Children with their steps. A child is its stamp, its cell and its own children.
pub data Forest : Type 0 where
  bare : Forest
  grown : Step → ℕ → Option Cell → Forest → Forest → Forest

pub record Tree : Type 0 where
  pub stamp : ℕ
  pub cell : Option Cell
  pub kids : Forest

-- how many nodes the children have
abbrev pub weight : Forest → ℕ
weight bare = 0
weight (grown x s c ks rest) = weight ks + 1 + weight rest

abbrev pub size_of : Tree → ℕ
size_of t = weight t.kids

-- the number of levels of these children
abbrev pub height : Forest → ℕ
height bare = 0
height (grown x s c ks rest) = max (height ks + 1) (height rest)

-- the children as a list
abbrev pub pairs : Forest → List (Step × Tree)
pairs bare = []
pairs (grown x s c ks rest) = (x, record { stamp = s; cell = c; kids = ks }) ∷ pairs rest

abbrev pub grove : List (Step × Tree) → Forest
grove [] = bare
grove (e ∷ es) = grown e.0 e.1.stamp e.1.cell e.1.kids (grove es)

-- the child at a step
abbrev pub kid_at : Forest → Step → Option Tree
kid_at f x = find step_cmp x (pairs f)

-- entries without the one at a step
abbrev pub cut : Step → List (Step × Tree) → List (Step × Tree)
cut x [] = []
cut x (e ∷ es) = by_order (step_cmp x e.0) (e ∷ es) es (e ∷ cut x es)

-- entries with another tree at a step, or none
abbrev pub change : Step → Option Tree → List (Step × Tree) → List (Step × Tree)
change x None es = cut x es
change x (Some t) es = put step_cmp x t es

-- how many entries have smaller steps
abbrev pub place : Step → List (Step × Tree) → ℕ
place x [] = 0
place x (e ∷ es) = by_order (step_cmp x e.0) 0 0 (1 + place x es)

-- the entries after a step
abbrev pub after : Step → List (Step × Tree) → List (Step × Tree)
after x [] = []
after x (e ∷ es) = by_order (step_cmp x e.0) (e ∷ es) es (after x es)

abbrev pub one_of : Step → Option Tree → List (Step × Tree)
one_of x None = []
one_of x (Some t) = (x, t) ∷ []

-- whether a node is needed: it has a cell or children
abbrev pub is_filled : Option Cell → Forest → Bool
is_filled (Some c) ks = true
is_filled None bare = false
is_filled None (grown x s c ks rest) = true

-- the steps ascend, and each child has a cell or children
abbrev pub IsGrove : Forest → Type 0
IsGrove bare = Unit {0}
IsGrove (grown x s c ks rest) = (T (below_all step_cmp x (pairs rest)) × T (is_filled c ks)) × (IsGrove ks × IsGrove rest)
