use Rattle.std.proofs.Common.{◌≡◌, ap, sym, ◌∙◌, subst}
use Rattle.sal_types.specs.Tree.{cell}
use Rattle.sal_rows.specs.declared.op.Act.TheVariants.{Merge}
use Rattle.sal_node.specs.Tree.{Tree}
use Rattle.sal_tree.specs.Rows.{rows_of}
use Rattle.sal_tree.specs.Edit.{with_rows}
use Rattle.sal_tree.specs.Follows.{Follows, exactly}
use Rattle.sal_tree.specs.Touched.{act_touches}
use Rattle.sal_tree.proofs.Commits.{cell-act, rows-act}
use Rattle.sal_tree.proofs.Touches.{Follows-act}
use Rattle.sal_tree.proofs.root.Root.merge.Goals as goal

pub returns-clause-cells : goal.returns-clause-cells
returns-clause-cells c = λ q.
    let made : c.in_ok-after.after ≡ with_rows c.args.stamp c.args.self.now c.args.rows.now =
    c.in_ok-after.ensures ∙ ap (with_rows c.args.stamp c.args.self.now) c.items.ensures.all in
    ap (λ (t : Tree). cell (rows_of t) q) made ∙ cell-act c.args.stamp c.args.self.now c.args.path.now (Merge c.args.rows.now) q c.node.ensures.whole.ordered c.items.ensures.ascending

pub returns-clause-rows : goal.returns-clause-rows
returns-clause-rows c = λ s.
    let made : c.in_ok-after.after ≡ with_rows c.args.stamp c.args.self.now c.args.rows.now =
    c.in_ok-after.ensures ∙ ap (with_rows c.args.stamp c.args.self.now) c.items.ensures.all in
    ap rows_of made ∙ rows-act c.args.stamp s c.args.self.now c.args.path.now (Merge c.args.rows.now) c.node.ensures.whole.ordered tt c.items.ensures.ascending

pub returns-clause-stamps : goal.returns-clause-stamps
returns-clause-stamps c =
    let made : c.in_ok-after.after ≡ with_rows c.args.stamp c.args.self.now c.args.rows.now =
    c.in_ok-after.ensures ∙ ap (with_rows c.args.stamp c.args.self.now) c.items.ensures.all in
    subst (λ (t : Tree). Follows (exactly c.args.stamp) (act_touches (rows_of c.args.self.now) c.args.path.now (Merge c.args.rows.now)) c.args.self.now t) (sym made) (Follows-act c.args.stamp c.args.self.now c.args.path.now (Merge c.args.rows.now) c.node.ensures.whole.ordered tt)
