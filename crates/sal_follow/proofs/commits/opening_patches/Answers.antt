use Rattle.std.proofs.Common.{[], ap, ◌∙◌}
use Rattle.sal_types.specs.Tree.{under}
use Rattle.sal_tree.specs.Rows.{rows_of}
use Rattle.sal_follow.specs.Framed.{patches}
use Rattle.sal_follow.proofs.Exporting.{under-root}
use Rattle.sal_follow.proofs.commits.opening_patches.Goals as goal

pub returns : goal.returns
returns c =
    let rows = rows_of c.args.root.now in
    c.in_ok-patches.ensures ∙ ap (patches []) (c.in_ok-rows.ensures ∙ ap (under rows) c.root.ensures ∙ under-root rows)
