-- The followers so far, and then the others.
use Rattle.std.proofs.Common.{◌≡◌, ◌++◌, drop}
use Rattle.sal_prepare.specs.Scripted.{tables_in}
use Rattle.sal_cluster.specs.StandBys.{before_from}
use Rattle.sal_cluster.proofs.standby.each_before.Given as goal

abbrev pub invariant-loop-domain : goal.invariant-loop-domain
invariant-loop-domain l = l.followers.items ++ before_from l.firsts l.domain (tables_in (drop l.domain l.schemas)) ≡ before_from l.firsts 0 (tables_in l.schemas)
