-- The depths from this one on are left.
use Rattle.std.proofs.Common.{◌≡◌, ◌-◌, length, take}
use Rattle.std.specs.Prelude.{find}
use Rattle.sal_rows.specs.Commits.{numbers_after}
use Rattle.sal_tree.specs.Rows.{rows_of}
use Rattle.sal_graft.specs.Rows.{is_lost_of, lost_depth}
use Rattle.sal_graft.proofs.search.lost_depth.Given as goal

abbrev pub invariant-loop-depth : goal.invariant-loop-depth
invariant-loop-depth l =
    find (λ d. is_lost_of (rows_of l.base) (rows_of l.tip) l.earlier l.store (take d l.steps)) (numbers_after (l.depth - 1) (length l.steps - l.depth))
    ≡ lost_depth (rows_of l.base) (rows_of l.tip) l.earlier l.store l.steps
