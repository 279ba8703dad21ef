-- The rest decides.
use Rattle.std.proofs.Common.{◌≡◌, drop}
use Rattle.sal_cluster.specs.Numbers.{are_newest}
use Rattle.sal_cluster.proofs.numbers.are_newest.Given as goal

abbrev pub invariant-loop-index : goal.invariant-loop-index
invariant-loop-index l = are_newest l.hub l.bases l.index (drop l.index l.newest) ≡ are_newest l.hub l.bases 0 l.newest
