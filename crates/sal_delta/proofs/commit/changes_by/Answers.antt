use Rattle.std.proofs.Common.{rules, ◌≡◌, true, Some, ap, ◌∙◌}
use Rattle.sal_tree.specs.Alike.{alike}
use Rattle.sal_tree.specs.Grow.{at}
use Rattle.sal_tree.specs.Rows.{rows_of}
use Rattle.sal_tree.proofs.Cells.{ascending-rows_of}
use Rattle.sal_delta.specs.Ordered.{in_order}
use Rattle.sal_delta.proofs.ByOps.{changes-found}
use Rattle.sal_delta.proofs.Exact.{alike-changes}
use Rattle.sal_delta.proofs.commit.changes_by.Goals as goal

pub returns-then-is_alike : goal.returns-then-is_alike
returns-then-is_alike c =
    let same : alike (at (Some c.args.commit.now.before.now) c.args.path.now) (at (Some c.args.commit.now.after.now) c.args.path.now) ≡ true = search rules in
    c.new.ensures ∙ alike-changes c.args.commit.now.before.now c.args.commit.now.after.now c.args.path.now c.node.ensures.whole c.node-2.ensures.whole c.requires.agree same

pub returns : goal.returns
returns c =
    let b = rows_of c.args.commit.now.before.now in
    let a = rows_of c.args.commit.now.after.now in
    c.from_items.ensures
    ∙ changes-found b a c.args.commit.now.store c.args.path.now c.args.commit.now.ops.now _ (ascending-rows_of c.args.commit.now.before.now c.node.ensures.whole.ordered) (ascending-rows_of c.args.commit.now.after.now c.node-2.ensures.whole.ordered) c.requires.made
    (c.in_ok-list-2.ensures ∙ ap in_order c.in_ok-list.ensures)
