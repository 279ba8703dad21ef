use Rattle.std.proofs.Common.{◌≡◌, ◌++◌, drop}
use Rattle.std.specs.Prelude.{map}
use Rattle.sal_draw_script.specs.Rows.{beads_in, rest_rows, tables_in}
use Rattle.sal_draw_script.proofs.rows.add_rest.Given as goal

abbrev pub invariant-loop-lane : goal.invariant-loop-lane
invariant-loop-lane l =
    l.rows.items ++ rest_rows (tables_in l.schemas) l.lane (drop l.lane (map beads_in l.left)) ≡ l.initial.rows.items ++ rest_rows (tables_in l.schemas) 0 (map beads_in l.left)
