use Rattle.std.proofs.Common.{◌≡◌, ◌+◌, drop}
use Rattle.std.specs.Prelude.{map}
use Rattle.sal_draw_script.specs.Rows.{bead_of, locals}
use Rattle.sal_draw_script.proofs.rows.locals.Given as goal

abbrev pub invariant-loop-i : goal.invariant-loop-i
invariant-loop-i l = locals (map bead_of l.beads) ≡ l.i + locals (map bead_of (drop l.i l.beads))
