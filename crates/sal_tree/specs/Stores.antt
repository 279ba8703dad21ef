-- The two trees of a domain, by their stores.
use Rattle.std.specs.Prelude.{List}
use Rattle.sal_types.specs.declared.value.Store.{Store}
use Rattle.sal_types.specs.declared.value.Store.TheVariants.{Config, Oper}
use Rattle.sal_types.specs.declared.row.Row.{Row}
use Rattle.sal_node.specs.Tree.{Tree}
use Rattle.sal_tree.specs.Rows.{rows_of}
use Rattle.sal_tree.specs.declared.commit.Pair.{Pair}

-- the tree of a store
abbrev pub tree_in : Pair → Store → Tree
tree_in pair Config = pair.config
tree_in pair Oper = pair.oper

abbrev pub rows_in : Pair → Store → List Row
rows_in pair store = rows_of (tree_in pair store)
