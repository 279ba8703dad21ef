use Rattle.std.proofs.Common.{◌≡◌, List, [], ◌∷◌, length, refl, ap, sym, ◌∙◌, subst, arith}
use Rattle.std.proofs.lemmas.Bool.Decides.{nat_tests}
use Rattle.sal_types.specs.declared.row.Row.{Row}
use Rattle.sal_types.specs.Tree.{cell}
use Rattle.sal_rows.specs.declared.op.Act.TheVariants.{Put}
use Rattle.sal_node.specs.Tree.{Tree}
use Rattle.sal_tree.specs.Rows.{rows_of}
use Rattle.sal_tree.specs.Edit.{put_rows}
use Rattle.sal_tree.specs.Follows.{Follows, exactly}
use Rattle.sal_tree.specs.Touched.{act_touches}
use Rattle.sal_tree.proofs.Commits.{cell-act, rows-act}
use Rattle.sal_tree.proofs.Touches.{Follows-act}
use Rattle.sal_tree.proofs.root.Root.put.Goals as goal

none_of : (rows : List Row) → length rows ≡ 0 → rows ≡ []
none_of [] e = refl
none_of (row ∷ rows) e = absurd (omega arith)

pub returns-then-is_empty-clause-cells : goal.returns-then-is_empty-clause-cells
returns-then-is_empty-clause-cells c = λ q.
    let made : c.in_ok-after.after ≡ put_rows c.args.stamp c.args.self.now c.args.path.now c.args.rows.now =
    c.in_ok-after.ensures ∙ ap (put_rows c.args.stamp c.args.self.now c.args.path.now) (sym (sym c.items.ensures.all ∙ none_of c.items.result.now (grind (arith, nat_tests)))) in
    ap (λ (t : Tree). cell (rows_of t) q) made ∙ cell-act c.args.stamp c.args.self.now c.args.path.now (Put c.args.rows.now) q c.node.ensures.whole.ordered c.items.ensures.ascending

pub returns-then-is_empty-clause-rows : goal.returns-then-is_empty-clause-rows
returns-then-is_empty-clause-rows c = λ s.
    let made : c.in_ok-after.after ≡ put_rows c.args.stamp c.args.self.now c.args.path.now c.args.rows.now =
    c.in_ok-after.ensures ∙ ap (put_rows c.args.stamp c.args.self.now c.args.path.now) (sym (sym c.items.ensures.all ∙ none_of c.items.result.now (grind (arith, nat_tests)))) in
    ap rows_of made ∙ rows-act c.args.stamp s c.args.self.now c.args.path.now (Put c.args.rows.now) c.node.ensures.whole.ordered c.requires c.items.ensures.ascending

pub returns-then-is_empty-clause-stamps : goal.returns-then-is_empty-clause-stamps
returns-then-is_empty-clause-stamps c =
    let made : c.in_ok-after.after ≡ put_rows c.args.stamp c.args.self.now c.args.path.now c.args.rows.now =
    c.in_ok-after.ensures ∙ ap (put_rows c.args.stamp c.args.self.now c.args.path.now) (sym (sym c.items.ensures.all ∙ none_of c.items.result.now (grind (arith, nat_tests)))) in
    subst (λ (t : Tree). Follows (exactly c.args.stamp) (act_touches (rows_of c.args.self.now) c.args.path.now (Put c.args.rows.now)) c.args.self.now t) (sym made) (Follows-act c.args.stamp c.args.self.now c.args.path.now (Put c.args.rows.now) c.node.ensures.whole.ordered c.requires)
