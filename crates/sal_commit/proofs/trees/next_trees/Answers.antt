use Rattle.std.proofs.Common.{◌≡◌, ◌-◌, List, [], length, get_or, sym, subst}
use Rattle.sal_types.specs.declared.value.Store.{Store}
use Rattle.sal_rows.specs.Apply.{apply_ops}
use Rattle.sal_node.specs.Tree.{IsGrove}
use Rattle.sal_tree.specs.Follows.{Follows, exactly}
use Rattle.sal_tree.specs.declared.commit.Commit.{Commit}
use Rattle.sal_tree.specs.declared.commit.Pair.{Pair}
use Rattle.sal_tree.proofs.Follows.{Follows-same}
use Rattle.sal_rows.specs.Clash.{tip}
use Rattle.sal_rows.specs.Touch.{touches}
use Rattle.sal_graft.specs.Kept.{opening_in, ops_of, rows_in, tree_in}
use Rattle.sal_commit.specs.Deciding.{LieBelow}
use Rattle.sal_tx.proofs.Nexts.{LieBelow-at}
use Rattle.sal_commit.proofs.Applying.{apply_ops-more}
use Rattle.sal_commit.proofs.Following.{Follows-step}
use Rattle.sal_commit.proofs.trees.next_trees.Goals as goal

pub loop-op-init : goal.loop-op-init
loop-op-init c =
    let commits = c.args.domain.now.commits.items in
    let made = c.in_ok-trees.trees in
    let same : (k : Commit) → k ≡ get_or commits (length commits - 1) k → made ≡ k.trees =
    subst (λ (ks : List Commit). (k : Commit) → k ≡ get_or ks (length ks - 1) k → made ≡ k.trees) c.deref.ensures.value c.in_ok-trees.ensures.same in
    record {
      rows = subst (λ (ks : List Commit). (s : Store) → rows_in made s ≡ apply_ops (tip (opening_in ks) (ops_of ks) s) s []) c.deref.ensures.value c.in_ok-trees.ensures.rows;
      whole = c.in_ok-trees.ensures.whole;
      newest = λ k s is. subst (λ (p : Pair). IsGrove (tree_in p s).kids) (same k is) (c.in_ok-trees.ensures.whole s);
      follows = λ k s is. subst (λ (p : Pair). Follows (exactly c.args.fresh) (touches (rows_in k.trees s) s []) (tree_in k.trees s) (tree_in p s)) (sym (same k is)) (Follows-same (exactly c.args.fresh) (tree_in k.trees s));
    }

pub applied-requires : goal.applied-requires
applied-requires c = LieBelow-at c.ops-op-items.result.now c.loop-op.op-index c.op-item.result (subst LieBelow (sym c.ops-op-items.ensures) c.requires.below) c.loop-op-test.true c.op-item.is

pub loop-op-preserved : goal.loop-op-preserved
loop-op-preserved c = record {
  rows = λ s.
      apply_ops-more (tip (opening_in c.args.domain.now.commits.items) (ops_of c.args.domain.now.commits.items) s) s c.ops-op-items.result.now c.loop-op.op-index c.op-item.result
      (rows_in c.loop-op.trees s) (rows_in c.in_ok-trees-2.trees s) c.loop-op-test.true c.op-item.is (c.loop-op.invariant.rows s) (c.in_ok-trees-2.ensures.rows s);
  whole = c.in_ok-trees-2.ensures.whole;
  newest = c.loop-op.invariant.newest;
  follows = λ k s is.
      Follows-step c.args.fresh s c.ops-op-items.result.now c.loop-op.op-index c.op-item.result (tree_in k.trees s) (tree_in c.loop-op.trees s) (tree_in c.in_ok-trees-2.trees s) c.loop-op-test.true c.op-item.is
      (c.loop-op.invariant.newest k s is) (c.loop-op.invariant.whole s) (c.loop-op.invariant.follows k s is) (c.in_ok-trees-2.ensures.stamps s);
}
