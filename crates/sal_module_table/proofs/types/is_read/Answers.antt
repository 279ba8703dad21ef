use Rattle.std.proofs.Common.{◌∙◌, sym}
use Rattle.sal_stmt.specs.declared.stmt.Stmt.TheViews.{out-Stmt}
use Rattle.sal_module_table.proofs.LeafWord.{read-word}
use Rattle.sal_module_table.proofs.types.is_read.Goals as goal

pub returns-then-is_leaf_or_type : goal.returns-then-is_leaf_or_type
returns-then-is_leaf_or_type c = read-word (out-Stmt c.args.stmt.now).keyword (sym c.is_leaf_or_type.ensures ∙ c.if-is_leaf_or_type.true)
