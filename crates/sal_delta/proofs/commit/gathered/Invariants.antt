use Rattle.std.proofs.Common.{◌≡◌, take}
use Rattle.sal_tree.specs.Rows.{rows_of}
use Rattle.sal_delta.specs.ByOps.{found_by_all}
use Rattle.sal_delta.proofs.commit.gathered.Given as goal

abbrev pub invariant-loop-op : goal.invariant-loop-op
invariant-loop-op l = l.list.items ≡ found_by_all (rows_of l.commit.before.now) (rows_of l.commit.after.now) l.commit.store l.path (take l.op-index l.commit.ops.now)
