use Rattle.std.proofs.Common.{◌≡◌}
use Rattle.std.specs.Prelude.{map}
use Rattle.std.specs.List.{range_with_len}
use Rattle.sal_draw_script.specs.Rows.{client_name}
use Rattle.sal_draw_script.proofs.rows.names_of.Given as goal

abbrev pub invariant-loop-lane : goal.invariant-loop-lane
invariant-loop-lane l = l.names.items ≡ map client_name (range_with_len 0 l.lane)
