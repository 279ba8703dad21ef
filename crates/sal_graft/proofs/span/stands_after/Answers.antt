use Rattle.std.proofs.Common.{List, ap, sym, ◌∙◌}
use Rattle.sal_types.specs.declared.row.Row.{Row}
use Rattle.sal_types.specs.Tree.{has}
use Rattle.sal_node.specs.Tree.{Tree}
use Rattle.sal_tree.specs.Rows.{rows_of}
use Rattle.sal_tree.specs.declared.commit.Commit.{Commit}
use Rattle.sal_graft.specs.Kept.{rows_in}
use Rattle.sal_graft.proofs.span.stands_after.Goals as goal

pub returns : goal.returns
returns c =
    c.stands.ensures ∙ ap (λ (t : Tree). has (rows_of t) c.args.steps.now) c.tree_of.ensures
    ∙ ap (λ (x : Commit). has (rows_in x.trees c.args.store) c.args.steps.now) (sym c.index-commits-number.is)
    ∙ ap (λ (rows : List Row). has rows c.args.steps.now) (c.requires.kept.trees c.args.number c.index-commits-number.result c.args.store c.requires.number c.index-commits-number.is)
