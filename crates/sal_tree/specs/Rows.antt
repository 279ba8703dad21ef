-- The rows of a tree.
use Rattle.std.specs.Prelude.{ℕ, ◌+◌, Bool, true, false, List, [], ◌∷◌, ◌++◌, Option, Some, None, map, drop, if◌then◌else◌}
use Rattle.std.specs.Ordering.{eq_by_cmp}
use Rattle.sal_types.specs.declared.value.Step.{Step}
use Rattle.sal_types.specs.declared.value.Cell.{Cell}
use Rattle.sal_types.specs.declared.row.Row.{Row}
use Rattle.sal_types.specs.Order.{step_cmp}
use Rattle.sal_node.specs.Tree.{Tree, Forest, bare, grown}

abbrev pub here : Option Cell → List Row
here None = []
here (Some c) = record { path = []; cell = c } ∷ []

abbrev pub below : Step → List Row → List Row
below x = map (λ row. record { path = x ∷ row.path; cell = row.cell })

-- the rows of children, from their node on
abbrev pub rows_in : Forest → List Row
rows_in bare = []
rows_in (grown x s c ks rest) = below x (here c ++ rows_in ks) ++ rows_in rest

abbrev pub rows_of : Tree → List Row
rows_of t = here t.cell ++ rows_in t.kids

-- the rows with a path before theirs
abbrev pub from_path : List Step → List Row → List Row
from_path p [] = []
from_path p (row ∷ rows) = record { path = p ++ row.path; cell = row.cell } ∷ from_path p rows

-- the rows with their paths from a depth on
abbrev pub from_depth : ℕ → List Row → List Row
from_depth d [] = []
from_depth d (row ∷ rows) = record { path = drop d row.path; cell = row.cell } ∷ from_depth d rows

abbrev pub is_root : List Step → Bool
is_root [] = true
is_root (x ∷ p) = false

-- the cell of the first row, if its path is empty
abbrev pub first_cell : List Row → Option Cell
first_cell [] = None
first_cell (row ∷ rows) = if is_root row.path then Some row.cell else None

-- the rows without that one
abbrev pub other_rows : List Row → List Row
other_rows [] = []
other_rows (row ∷ rows) = if is_root row.path then rows else row ∷ rows

-- whether a path begins with the step
abbrev pub begins : Step → List Step → Bool
begins x [] = false
begins x (y ∷ p) = eq_by_cmp step_cmp x y

-- how many rows from the first on have paths that begin with the step
abbrev pub leading : Step → List Row → ℕ
leading x [] = 0
leading x (row ∷ rows) = if begins x row.path then 1 + leading x rows else 0
