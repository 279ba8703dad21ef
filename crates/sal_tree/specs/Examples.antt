-- A small tree: the root, a presence container, and a leaf below it.
use Rattle.std.specs.Prelude.{List, [], ◌∷◌, Some, None}
use Rattle.sal_types.specs.declared.value.Step.{Step}
use Rattle.sal_types.specs.declared.value.Step.TheVariants.{Node}
use Rattle.sal_types.specs.declared.value.Atom.TheVariants.{Unsigned}
use Rattle.sal_types.specs.declared.value.Cell.{Cell}
use Rattle.sal_types.specs.declared.value.Cell.TheVariants.{Mark, Leaf}
use Rattle.sal_types.specs.declared.row.Row.{Row}
use Rattle.sal_node.specs.Tree.{Tree, bare, grown}

abbrev pub box_path : List Step
box_path = Node 3 ∷ []

abbrev pub leaf_path : List Step
leaf_path = Node 3 ∷ Node 5 ∷ []

abbrev pub five : Cell
five = Leaf (record { member = 0; atom = Unsigned 5 })

-- each node has the stamp 4
abbrev pub sample : Tree
sample = record { stamp = 4; cell = None; kids = grown (Node 3) 4 (Some Mark) (grown (Node 5) 4 (Some five) bare bare) bare }

abbrev pub sample_rows : List Row
sample_rows = record { path = box_path; cell = Mark } ∷ record { path = leaf_path; cell = five } ∷ []

-- the sample without its leaf, with the stamp 6 on the nodes above it
abbrev pub without_leaf : Tree
without_leaf = record { stamp = 6; cell = None; kids = grown (Node 3) 6 (Some Mark) bare bare }
