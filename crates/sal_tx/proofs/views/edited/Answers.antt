-- A read touches nothing.
use Rattle.std.proofs.Common.{◌≡◌, false, sym, subst, ap, ◌∙◌}
use Rattle.std.specs.Prelude.{IfOk, Result, Ok, Err}
use Rattle.sal_rows.specs.declared.op.Act.{Act}
use Rattle.sal_node.specs.Tree.{Tree}
use Rattle.sal_tree.specs.Follows.{Follows, exactly}
use Rattle.sal_tree.specs.Rows.{rows_of}
use Rattle.sal_tree.specs.Touched.{act_touches}
use Rattle.sal_tree.proofs.Follows.{Follows-by, Follows-same}
use Rattle.sal_tree.proofs.Touches.{read-touches}
use Rattle.sal_tx.proofs.views.edited.Goals as goal

of_copy : {E : Type 0} (result : Result Tree E) (t : Tree) (P : Tree → Type 0) → P t → IfOk result (λ it. it ≡ t) → IfOk result P
of_copy (Ok it) t P p is = subst P (sym is) p
of_copy (Err e) t P p is = tt

pub returns-in-Read-clause-stamps : goal.returns-in-Read-clause-stamps
returns-in-Read-clause-stamps c =
    let tree = c.args.tree.now in
    let p = c.args.op.now.path in
    let touched = act_touches (rows_of tree) p c.args.op.now.act in
    let same = Follows-by (exactly c.args.stamp) (λ q. false) touched tree tree (λ q.
    sym (ap (λ (act : Act). act_touches (rows_of tree) p act q) c.in-Read.is ∙ read-touches (rows_of tree) p q)) (Follows-same (exactly c.args.stamp) tree) in
    of_copy c.copy.result tree (Follows (exactly c.args.stamp) touched tree) same c.copy.ensures
