use Rattle.std.proofs.Common.{◌≡◌, take, map}
use Rattle.sal_grouping.specs.Growth.{plain}
use Rattle.sal_grouping.proofs.grow.plain_of.Given as goal

abbrev pub invariant-loop-k : goal.invariant-loop-k
invariant-loop-k l = l.seeds.items ≡ map plain (take l.k-index l.nodes)
