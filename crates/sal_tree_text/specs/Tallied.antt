-- How many rows are below a node, and the sum of its numbers there, by its children.
use Rattle.std.specs.Prelude.{ℕ, ◌+◌, List, [], ◌∷◌, Option, Some, None}
use Rattle.sal_types.specs.declared.value.Cell.{Cell}
use Rattle.sal_types.specs.declared.value.Step.{Step}
use Rattle.sal_script.specs.Load.{number_at}
use Rattle.sal_node.specs.Tree.{Tree, Forest, bare, grown}

abbrev pub own_row : Option Cell → ℕ
own_row None = 0
own_row (Some c) = 1

-- the number in a cell after this step
abbrev pub own_number : Step → Option Cell → ℕ
own_number x None = 0
own_number x (Some c) = number_at c x

abbrev pub rows_under : Forest → ℕ
rows_under bare = 0
rows_under (grown x s c kids rest) = (own_row c + rows_under kids) + rows_under rest

abbrev pub sum_under : Forest → ℕ
sum_under bare = 0
sum_under (grown x s c kids rest) = (own_number x c + sum_under kids) + sum_under rest

-- the same of children in a list
abbrev pub rows_below : List (Step × Tree) → ℕ
rows_below [] = 0
rows_below (e ∷ es) = (own_row e.1.cell + rows_under e.1.kids) + rows_below es

abbrev pub sum_below : List (Step × Tree) → ℕ
sum_below [] = 0
sum_below (e ∷ es) = (own_number e.0 e.1.cell + sum_under e.1.kids) + sum_below es
