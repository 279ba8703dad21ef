-- All rows are at the root or below it.
use Rattle.std.proofs.Common.{ap, ◌∙◌}
use Rattle.sal_types.specs.Tree.{under}
use Rattle.sal_tree.specs.Rows.{rows_of}
use Rattle.sal_epoch.proofs.Next.{under-root}
use Rattle.sal_epoch.proofs.epochs.rows_of.Goals as goal

pub returns : goal.returns
returns c =
    let rows = rows_of c.args.tree.now in
    c.in_ok-rows.ensures ∙ ap (under rows) c.root.ensures ∙ under-root rows
