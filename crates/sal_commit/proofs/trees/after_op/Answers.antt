use Rattle.std.proofs.Common.{rules, ◌≡◌, ◌∷◌, [], true, false, ap, subst, sym, ◌∙◌}
use Rattle.sal_node.specs.Tree.{Tree, IsGrove}
use Rattle.sal_rows.specs.Apply.{same_store}
use Rattle.sal_rows.specs.Touch.{touches}
use Rattle.sal_tree.specs.Rows.{rows_of}
use Rattle.sal_tree.specs.Follows.{Follows, exactly}
use Rattle.sal_commit.proofs.Applying.{after-other, after-same}
use Rattle.sal_commit.proofs.Following.{Follows-other, Follows-own}
use Rattle.sal_commit.proofs.trees.after_op.Goals as goal

pub returns-then-not-same_store-clause-rows : goal.returns-then-not-same_store-clause-rows
returns-then-not-same_store-clause-rows c =
    let other : same_store c.args.op.now.store c.args.store ≡ false = search rules in
    ap rows_of c.in_ok-same.ensures ∙ after-other c.args.tree.now c.args.store c.args.op.now c.node.ensures.whole.ordered other

pub returns-then-not-same_store-clause-stamps : goal.returns-then-not-same_store-clause-stamps
returns-then-not-same_store-clause-stamps c =
    let other : same_store c.args.op.now.store c.args.store ≡ false = search rules in
    subst (λ (t : Tree). Follows (exactly c.args.fresh) (touches (rows_of c.args.tree.now) c.args.store (c.args.op.now ∷ [])) c.args.tree.now t) (sym c.in_ok-same.ensures)
    (Follows-other c.args.fresh c.args.store c.args.op.now c.args.tree.now other)

pub returns-then-not-same_store-clause-whole : goal.returns-then-not-same_store-clause-whole
returns-then-not-same_store-clause-whole c = subst (λ (t : Tree). IsGrove t.kids) (sym c.in_ok-same.ensures) c.node.ensures.whole.ordered

pub returns-clause-rows : goal.returns-clause-rows
returns-clause-rows c =
    let same : same_store c.args.op.now.store c.args.store ≡ true = search rules in
    after-same c.args.tree.now c.in_ok-next.next c.args.store c.args.op.now c.node-2.ensures.whole.ordered same c.in_ok-next.ensures.cells

pub returns-clause-whole : goal.returns-clause-whole
returns-clause-whole c = c.node-2.ensures.whole.ordered

pub returns-clause-stamps : goal.returns-clause-stamps
returns-clause-stamps c =
    let same : same_store c.args.op.now.store c.args.store ≡ true = search rules in
    Follows-own c.args.fresh c.args.store c.args.op.now c.args.tree.now c.in_ok-next.next same c.in_ok-next.ensures.stamps
