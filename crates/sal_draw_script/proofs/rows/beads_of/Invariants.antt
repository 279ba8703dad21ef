use Rattle.std.proofs.Common.{◌≡◌, ◌++◌, drop}
use Rattle.std.specs.Prelude.{map}
use Rattle.std.specs.List.{zip}
use Rattle.sal_script.specs.Moves.{moves_of}
use Rattle.sal_draw_script.specs.Rows.{bead, bead_of}
use Rattle.sal_draw_script.proofs.rows.beads_of.Given as goal

abbrev pub invariant-loop-i : goal.invariant-loop-i
invariant-loop-i l = map bead_of l.beads.items ++ map bead (zip (drop l.i (moves_of l.steps)) (drop l.i l.replies)) ≡ map bead (zip (moves_of l.steps) l.replies)
