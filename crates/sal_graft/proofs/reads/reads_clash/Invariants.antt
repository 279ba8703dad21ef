-- The operations from the index on are left.
use Rattle.std.proofs.Common.{◌≡◌, [], take, drop}
use Rattle.sal_rows.specs.Clash.{reads_from}
use Rattle.sal_graft.specs.Kept.{opening_in, ops_of}
use Rattle.sal_graft.proofs.reads.reads_clash.Given as goal

abbrev pub invariant-loop-at : goal.invariant-loop-at
invariant-loop-at l =
    reads_from (opening_in l.ground.commits.now) (ops_of l.ground.commits.now) l.ground.spans.now (take l.at l.changes) (drop l.at l.changes)
    ≡ reads_from (opening_in l.ground.commits.now) (ops_of l.ground.commits.now) l.ground.spans.now [] l.changes
