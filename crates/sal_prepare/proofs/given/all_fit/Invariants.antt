-- The rest decides.
use Rattle.std.proofs.Common.{◌≡◌, drop, map}
use Rattle.sal_client.specs.Lists.{alone}
use Rattle.sal_prepare.specs.Resumed.{are_fitting}
use Rattle.sal_prepare.specs.Scripted.{tables_in}
use Rattle.sal_prepare.proofs.given.all_fit.Given as goal

abbrev pub invariant-loop-opening : goal.invariant-loop-opening
invariant-loop-opening l = are_fitting (map alone (tables_in l.rest)) (drop l.opening-index l.given) ≡ are_fitting (map alone (tables_in l.schemas)) l.given
