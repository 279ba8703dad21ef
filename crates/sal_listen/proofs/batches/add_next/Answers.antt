use Rattle.std.proofs.Common.{ap, sym, ◌∙◌}
use Rattle.sal_tree.specs.Rows.{rows_of}
use Rattle.sal_rows.specs.Apply.{apply_ops}
use Rattle.sal_graft.proofs.KeptLemmas.{next-tree}
use Rattle.sal_listen.proofs.batches.add_next.Goals as goal

pub add_part-requires-clause-made : goal.add_part-requires-clause-made
add_part-requires-clause-made c =
    ap rows_of c.tree_of-2.ensures
    ∙ next-tree c.args.commits.now c.args.number c.commit_at-before.result.now c.commit_at-after.result.now c.args.listened.now.store c.requires.kept c.requires.inside c.commit_at-before.ensures c.commit_at-after.ensures
    ∙ (λ i. apply_ops (rows_of (sym c.tree_of.ensures i)) c.args.listened.now.store (sym (c.items.ensures ∙ c.deref.ensures) i))
