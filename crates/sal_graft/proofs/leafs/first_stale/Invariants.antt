-- The rows from the index on are left.
use Rattle.std.proofs.Common.{◌≡◌, drop}
use Rattle.std.specs.List.{position_from}
use Rattle.sal_rows.specs.Clash.{is_stale}
use Rattle.sal_graft.specs.Kept.{opening_in, ops_of, rows_in}
use Rattle.sal_graft.proofs.leafs.first_stale.Given as goal

abbrev pub invariant-loop-i : goal.invariant-loop-i
invariant-loop-i l =
    position_from (is_stale (opening_in l.ground.commits.now) (ops_of l.ground.commits.now) (rows_in l.ground.base.now) l.ground.spans.now l.store) 0 l.rows
    ≡ position_from (is_stale (opening_in l.ground.commits.now) (ops_of l.ground.commits.now) (rows_in l.ground.base.now) l.ground.spans.now l.store) l.i (drop l.i l.rows)
