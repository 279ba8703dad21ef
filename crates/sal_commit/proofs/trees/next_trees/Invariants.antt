-- The trees are those after the operations before the index, and follow the newest ones by these.
use Rattle.std.proofs.Common.{◌≡◌, ◌-◌, length, take, get_or}
use Rattle.sal_types.specs.declared.value.Store.{Store}
use Rattle.sal_rows.specs.Apply.{apply_ops}
use Rattle.sal_rows.specs.Clash.{tip}
use Rattle.sal_rows.specs.Touch.{touches}
use Rattle.sal_node.specs.Tree.{IsGrove}
use Rattle.sal_tree.specs.Follows.{Follows, exactly}
use Rattle.sal_tree.specs.declared.commit.Commit.{Commit}
use Rattle.sal_graft.specs.Kept.{opening_in, ops_of, rows_in, tree_in}
use Rattle.sal_commit.proofs.trees.next_trees.Given as goal

abbrev pub invariant-loop-op : goal.invariant-loop-op
invariant-loop-op l = record {
  rows : (s : Store) → rows_in l.trees s ≡ apply_ops (tip (opening_in l.domain.commits.items) (ops_of l.domain.commits.items) s) s (take l.op-index l.op-items);
  whole : (s : Store) → IsGrove (tree_in l.trees s).kids;
  newest : (c : Commit) (s : Store) → c ≡ get_or l.domain.commits.items (length l.domain.commits.items - 1) c → IsGrove (tree_in c.trees s).kids;
  follows : (c : Commit) (s : Store) → c ≡ get_or l.domain.commits.items (length l.domain.commits.items - 1) c
      → Follows (exactly l.fresh) (touches (rows_in c.trees s) s (take l.op-index l.op-items)) (tree_in c.trees s) (tree_in l.trees s);
}
