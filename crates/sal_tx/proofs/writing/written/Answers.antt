use Rattle.std.proofs.Common.{◌≡◌, ◌∷◌, ◌++◌, [], sym, subst}
use Rattle.sal_rows.specs.Apply.{rows_of_act}
use Rattle.sal_tx.specs.Views.{IsNext, IsSeen, stamp_of, with_tree}
use Rattle.sal_tx.proofs.Nexts.{lie_under, rows-seen}
use Rattle.sal_tx.proofs.writing.written.Goals as goal

pub checked-requires : goal.checked-requires
checked-requires c = rows-seen c.args.parts.now c.args.view.now c.args.op.now.store c.tree_of.result.now c.requires.seen c.tree_of.ensures

pub next_tree-requires : goal.next_tree-requires
next_tree-requires c = lie_under c.args.parts.now.begun.schema.value c.args.op.now.path (rows_of_act c.args.op.now.act) c.requires.for_schema.rows

pub returns : goal.returns
returns c =
    let w = c.args.parts.now in
    let view = c.args.view.now in
    let op = c.args.op.now in
    let same : c.stamp_of-stamp.result ≡ stamp_of w.begun.place = c.stamp_of-stamp.ensures in
    let done : IsNext w view op c.in_ok-tree.tree = record {
      allowed = c.in_ok-checked.ensures;
      seen = subst (λ n. IsSeen n (w.changes ++ op ∷ []) w.base (with_tree view op.store c.in_ok-tree.tree)) same (c.in_ok-tree.ensures w.changes (subst (λ n. IsSeen n w.changes w.base view) (sym same) c.requires.seen));
    } in
    done
