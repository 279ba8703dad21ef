-- The operations from the index on are left.
use Rattle.std.proofs.Common.{◌≡◌, [], take, drop}
use Rattle.sal_rows.specs.Clash.{clash_from}
use Rattle.sal_graft.specs.Kept.{opening_in, ops_of, rows_in}
use Rattle.sal_graft.proofs.search.writes_clash.Given as goal

abbrev pub invariant-loop-at : goal.invariant-loop-at
invariant-loop-at l =
    clash_from (opening_in l.ground.commits.now) (ops_of l.ground.commits.now) l.ground.rules (rows_in l.ground.base.now) l.ground.spans.now (take l.at l.changes) (drop l.at l.changes)
    ≡ clash_from (opening_in l.ground.commits.now) (ops_of l.ground.commits.now) l.ground.rules (rows_in l.ground.base.now) l.ground.spans.now [] l.changes
