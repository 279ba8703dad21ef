use Rattle.std.proofs.Common.{◌∙◌, sym}
use Rattle.sal_stmt.specs.declared.stmt.Stmt.TheViews.{out-Stmt}
use Rattle.sal_module_table.proofs.LeafWord.{leaf-word}
use Rattle.sal_module_table.proofs.node.node_keyword.Goals as goal

pub returns-then-is_leaf_stmt : goal.returns-then-is_leaf_stmt
returns-then-is_leaf_stmt c = leaf-word (out-Stmt c.args.stmt.now).keyword (sym c.is_leaf_stmt.ensures ∙ c.if-is_leaf_stmt.true)
