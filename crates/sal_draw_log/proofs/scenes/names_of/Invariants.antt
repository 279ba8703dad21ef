use Rattle.std.proofs.Common.{◌≡◌, take}
use Rattle.std.specs.Prelude.{map}
use Rattle.sal_draw_log.specs.Drawn.{seat_name}
use Rattle.sal_draw_log.proofs.scenes.names_of.Given as goal

abbrev pub invariant-loop-seat : goal.invariant-loop-seat
invariant-loop-seat l = l.names.items ≡ map seat_name (take l.seat-index l.seats)
