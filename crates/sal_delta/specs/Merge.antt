-- The changes between two trees, row by row, as the code computes them. Contracts of crates above use `changes` instead.
use Rattle.std.specs.Prelude.{List, [], ◌∷◌, ◌++◌, Option, Some, None, map, if◌then◌else◌}
use Rattle.std.specs.Ordering.{match_ordering}
use Rattle.sal_types.specs.declared.value.Step.{Step}
use Rattle.sal_types.specs.declared.row.Row.{Row}
use Rattle.sal_types.specs.Order.{path_cmp}
use Rattle.sal_node.specs.Tree.{Tree}
use Rattle.sal_tree.specs.Rows.{below, rows_of}
use Rattle.sal_rows.specs.declared.change.Change.{Change}
use Rattle.sal_rows.specs.Changes.{same_cell}

abbrev pub gone : Row → Change
gone row = record { path = row.path; before = Some row.cell; after = None }

abbrev pub come : Row → Change
come row = record { path = row.path; before = None; after = Some row.cell }

-- two rows of one path
abbrev pub met : Row → Row → List Change
met x y = if same_cell (Some x.cell) (Some y.cell) then [] else record { path = x.path; before = Some x.cell; after = Some y.cell } ∷ []

-- a row and the rows after it, merged with a list by `on`
abbrev pub merge_row : Row → (List Row → List Change) → List Row → List Change
merge_row x on [] = gone x ∷ on []
merge_row x on (y ∷ ys) = match_ordering (path_cmp x.path y.path) (gone x ∷ on (y ∷ ys)) (met x y ++ on ys) (come y ∷ merge_row x on ys)

abbrev pub merge : List Row → List Row → List Change
merge [] ys = map come ys
merge (x ∷ xs) ys = merge_row x (merge xs) ys

-- the rows of a node, if there is one
abbrev pub rows_at : Option Tree → List Row
rows_at None = []
rows_at (Some t) = rows_of t

-- the rows of children
abbrev pub rows_below : List (Step × Tree) → List Row
rows_below [] = []
rows_below (e ∷ es) = below e.0 (rows_of e.1) ++ rows_below es

-- changes one step deeper
abbrev pub from_step : Step → List Change → List Change
from_step x [] = []
from_step x (c ∷ cs) = record { path = x ∷ c.path; before = c.before; after = c.after } ∷ from_step x cs

-- changes with a path in front of theirs
abbrev pub moved : List Step → List Change → List Change
moved p [] = []
moved p (c ∷ cs) = record { path = p ++ c.path; before = c.before; after = c.after } ∷ moved p cs
