-- A node with a child.
use Rattle.std.specs.Prelude.{ℕ, List, Some, nat_eq}
use Rattle.std.specs.List.{filter, list_any}
use Rattle.sal_types.specs.declared.value.Cell.TheVariants.{Mark}
use Rattle.sal_types.specs.declared.value.Step.{Step}
use Rattle.sal_types.specs.declared.value.Step.TheVariants.{Node}
use Rattle.sal_node.specs.Tree.{Forest, Tree, bare, change, grove, pairs}

-- a mark with the stamp 7
abbrev pub child : Tree
child = record { stamp = 7; cell = Some Mark; kids = bare }

-- the children of a node to which it was given at step 3
abbrev pub kids : Forest
kids = grove (change (Node 3) (Some child) (pairs bare))

-- those with one of the stamps
abbrev pub stamped : List ℕ → List (Step × Tree) → List (Step × Tree)
stamped stamps entries = filter (λ (e : Step × Tree). list_any (nat_eq e.1.stamp) stamps) entries
