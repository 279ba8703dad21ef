-- Leafs and leaf-lists have a type, and no other node has one.
use Rattle.sal_stmt.specs.declared.stmt.Stmt.{Stmt}
use Rattle.sal_grouping.proofs.Parts.{TreeNode}
use Rattle.sal_build.proofs.Grown.{AreGrown, built-grown}
use Rattle.std.proofs.Common.{IsTrue, subst, List}
use Rattle.std.specs.List.{list_all}
use Rattle.sal_schema.specs.declared.table.SchemaTable.{SchemaTable}
use Rattle.sal_schema.specs.Valid.{has_its_type}
use Rattle.sal_build.specs.Laws.{LeafsAreTyped}
use Rattle.sal_build.proofs.Built.{IsBuiltOn, built_on, forest_by, nodes_of}
use Rattle.sal_build.proofs.InfoLists.{infos-all, node-typed}

pub leafs-are-typed-on : (stmts : List Stmt) (nodes : List TreeNode) (table : SchemaTable) → IsBuiltOn stmts nodes table → AreGrown stmts nodes
    → IsTrue (list_all has_its_type table.nodes)
leafs-are-typed-on stmts nodes table built grown =
    let forest = forest_by stmts nodes in
    subst (λ (t : SchemaTable). IsTrue (list_all has_its_type t.nodes)) built.is (infos-all stmts forest has_its_type (node-typed stmts forest) 0 forest)

pub leafs_are_typed : LeafsAreTyped
leafs_are_typed stmts table e = leafs-are-typed-on stmts (nodes_of stmts) table (built_on stmts table e) (built-grown stmts)
