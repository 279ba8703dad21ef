use Rattle.std.proofs.Common.{◌≡◌, ◌+◌, drop}
use Rattle.sal_draw_log.specs.Drawn.{lane_of}
use Rattle.sal_draw_log.proofs.scenes.index_of.Given as goal

abbrev pub invariant-loop-i : goal.invariant-loop-i
invariant-loop-i l = lane_of l.seats l.client ≡ l.i + lane_of (drop l.i l.seats) l.client
