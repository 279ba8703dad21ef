use Rattle.std.proofs.Common.{map, ap, sym, ◌∙◌}
use Rattle.sal_rows.specs.Apply.{apply_ops}
use Rattle.sal_rows.specs.Changes.{changes, changes_under}
use Rattle.sal_tree.specs.Rows.{rows_of}
use Rattle.sal_graft.specs.Kept.{rows_in}
use Rattle.sal_follow.specs.Framed.{patch_by}
use Rattle.sal_follow.proofs.Exporting.{under-root}
use Rattle.sal_follow.proofs.commits.patches_made.Goals as goal

pub changes_by-requires-clause-made : goal.changes_by-requires-clause-made
changes_by-requires-clause-made c =
    ap rows_of c.tree_of-2.ensures ∙ c.requires.made ∙ (λ i. apply_ops (rows_of (sym c.tree_of.ensures i)) c.args.store (sym (c.items.ensures ∙ c.deref.ensures) i))

pub returns : goal.returns
returns c =
    let before = rows_in c.args.before.now.trees c.args.store in
    let after = rows_in c.args.after.now.trees c.args.store in
    c.in_ok-patches.ensures ∙ ap (map patch_by) (
    c.in_ok-list.ensures
    ∙ (λ i. changes_under (rows_of (c.tree_of.ensures i)) (rows_of (c.tree_of-2.ensures i)) (c.root.ensures i))
    ∙ (λ i. changes (under-root before i) (under-root after i)))
