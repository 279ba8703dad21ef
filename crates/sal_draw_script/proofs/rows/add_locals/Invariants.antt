use Rattle.std.proofs.Common.{◌≡◌, ◌++◌, take}
use Rattle.std.specs.Prelude.{map}
use Rattle.sal_draw_script.specs.Rows.{bead_of, local_row, tables_in}
use Rattle.sal_draw_script.proofs.rows.add_locals.Given as goal

abbrev pub invariant-loop-bead : goal.invariant-loop-bead
invariant-loop-bead l = l.rows.items ≡ l.initial.rows.items ++ map (local_row (tables_in l.schemas) l.at.lane l.at.hidden) (map bead_of (take l.bead-index l.beads))
