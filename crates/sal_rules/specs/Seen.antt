-- The tree as seen from one of its places. Paths begin at that place.
use Rattle.std.specs.Prelude.{Bool, List, [], ◌∷◌, ◌++◌, Option, if◌then◌else◌}
use Rattle.std.specs.List.{flat_map}
use Rattle.std.specs.Ordering.{eq_by_cmp}
use Rattle.sal_types.specs.declared.value.Step.{Step}
use Rattle.sal_types.specs.declared.value.Cell.{Cell}
use Rattle.sal_types.specs.declared.row.Row.{Row}
use Rattle.sal_types.specs.Order.{step_cmp}
use Rattle.sal_types.specs.Tree.{has, cell}

-- the last step of a path that is one step longer than p
abbrev pub step_past : List Step → List Step → List Step
step_past [] (step ∷ []) = step ∷ []
step_past (s ∷ p) (t ∷ path) = if eq_by_cmp step_cmp s t then step_past p path else []
step_past p path = []

-- the entries of the list or leaf-list at a path: each has its own row
abbrev pub entries : List Row → List Step → List Step
entries rows p = flat_map (λ (row : Row). step_past p row.path) rows

-- whether the tree has data at a path, the cell there, and the entries there
pub record Seen : Type 0 where
  pub has : List Step → Bool
  pub cell : List Step → Option Cell
  pub entries : List Step → List Step

abbrev pub seen_from : List Row → List Step → Seen
seen_from rows place = record { has = λ p. has rows (place ++ p); cell = λ p. cell rows (place ++ p); entries = λ p. entries rows (place ++ p) }

-- from further down
abbrev pub further : Seen → List Step → Seen
further see way = record { has = λ p. see.has (way ++ p); cell = λ p. see.cell (way ++ p); entries = λ p. see.entries (way ++ p) }
