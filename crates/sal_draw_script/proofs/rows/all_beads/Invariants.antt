use Rattle.std.proofs.Common.{◌≡◌, ◌++◌, drop}
use Rattle.std.specs.Prelude.{map}
use Rattle.std.specs.List.{zip}
use Rattle.sal_script.specs.Moves.{clients_of}
use Rattle.sal_draw_script.specs.Rows.{beads_of, client_beads}
use Rattle.sal_draw_script.proofs.rows.all_beads.Given as goal

abbrev pub invariant-loop-i : goal.invariant-loop-i
invariant-loop-i l = map beads_of l.all.items ++ map client_beads (zip (drop l.i (clients_of l.clients)) (drop l.i l.replies)) ≡ map client_beads (zip (clients_of l.clients) l.replies)
