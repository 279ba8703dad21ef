use Rattle.std.proofs.Common.{◌≡◌, drop}
use Rattle.std.specs.List.{position_from}
use Rattle.sal_grouping.specs.Augments.{is_child}
use Rattle.sal_grouping.proofs.augments.child_of.Given as goal

abbrev pub invariant-loop-i : goal.invariant-loop-i
invariant-loop-i l = position_from (is_child l.rows l.parent l.step) 0 l.nodes ≡ position_from (is_child l.rows l.parent l.step) l.i (drop l.i l.nodes)
