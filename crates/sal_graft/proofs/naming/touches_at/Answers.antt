use Rattle.std.proofs.Common.{List, ap, sym, ◌∙◌}
use Rattle.sal_rows.specs.Touch.{touches}
use Rattle.sal_tree.specs.Rows.{rows_of}
use Rattle.sal_rows.specs.declared.op.Op.{Op}
use Rattle.sal_graft.specs.Kept.{rows_in}
use Rattle.sal_tree.specs.declared.commit.Commit.{Commit}
use Rattle.sal_graft.proofs.KeptLemmas.{touches_at-kept}
use Rattle.sal_graft.proofs.naming.touches_at.Goals as goal

pub returns : goal.returns
returns c =
    c.is_touched.ensures ∙ (λ i. touches (rows_of (c.tree_of-before.ensures i)) c.args.store (c.items.ensures i) c.args.steps.now)
    ∙ (λ i. touches (rows_in (sym c.index-commits-at.is i).trees c.args.store) c.args.store c.deref.result.now c.args.steps.now)
    ∙ ap (λ (l : List Op). touches (rows_in c.index-commits-at.result.trees c.args.store) c.args.store l c.args.steps.now) c.deref.ensures
    ∙ ap (λ (x : Commit). touches (rows_in c.index-commits-at.result.trees c.args.store) c.args.store x.ops.value c.args.steps.now) (sym c.index-commits-at-2.is)
    ∙ sym (touches_at-kept c.args.commits.now c.args.number c.index-commits-at.result c.index-commits-at-2.result c.args.store c.args.steps.now c.requires.kept c.requires.low c.requires.high c.index-commits-at.is c.index-commits-at-2.is)
