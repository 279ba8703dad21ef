use Rattle.std.proofs.Common.{◌≡◌, [], take}
use Rattle.std.specs.List.{fold}
use Rattle.sal_draw_log.specs.Drawn.{add_seat}
use Rattle.sal_draw_log.proofs.scenes.seats_of.Given as goal

abbrev pub invariant-loop-entry : goal.invariant-loop-entry
invariant-loop-entry l = l.seats.items ≡ fold add_seat [] (take l.entry-index l.log)
