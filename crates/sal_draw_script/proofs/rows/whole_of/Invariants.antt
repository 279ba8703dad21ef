use Rattle.std.proofs.Common.{◌≡◌, take}
use Rattle.std.specs.Prelude.{map}
use Rattle.sal_draw_script.specs.Rows.{beads_in, beads_of}
use Rattle.sal_draw_script.proofs.rows.whole_of.Given as goal

abbrev pub invariant-loop-list : goal.invariant-loop-list
invariant-loop-list l = map beads_in l.left.items ≡ map beads_of (take l.list-index l.beads)
