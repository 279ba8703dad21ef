use Rattle.std.proofs.Common.{◌≡◌, take, map}
use Rattle.sal_grouping.specs.Growth.{in_choice}
use Rattle.sal_grouping.proofs.grow.cases_of.Given as goal

abbrev pub invariant-loop-k : goal.invariant-loop-k
invariant-loop-k l = l.seeds.items ≡ map (in_choice l.rows) (take l.k-index l.nodes)
