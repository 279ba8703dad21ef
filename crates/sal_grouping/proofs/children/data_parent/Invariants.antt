use Rattle.std.proofs.Common.{◌≡◌, ◌-◌}
use Rattle.sal_grouping.specs.Children.{data_parent}
use Rattle.sal_grouping.proofs.children.data_parent.Given as goal

abbrev pub invariant-loop-i : goal.invariant-loop-i
invariant-loop-i l = data_parent l.levels l.rows l.nodes l.initial.place ≡ data_parent (l.levels - l._i) l.rows l.nodes l.place
