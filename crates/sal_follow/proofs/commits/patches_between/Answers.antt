use Rattle.std.proofs.Common.{map, ap, ◌∙◌}
use Rattle.sal_rows.specs.Changes.{changes, changes_under}
use Rattle.sal_tree.specs.Rows.{rows_of}
use Rattle.sal_follow.specs.Framed.{patch_by}
use Rattle.sal_follow.proofs.Exporting.{under-root}
use Rattle.sal_follow.proofs.commits.patches_between.Goals as goal

pub returns : goal.returns
returns c =
    let before = rows_of c.args.before.now in
    let after = rows_of c.args.after.now in
    c.in_ok-patches.ensures ∙ ap (map patch_by) (c.in_ok-list.ensures.list ∙ ap (changes_under before after) c.root.ensures ∙ (λ i. changes (under-root before i) (under-root after i)))
