use Rattle.std.proofs.Common.{◌≡◌, map, take}
use Rattle.sal_script.specs.Report.{trees_in}
use Rattle.sal_prepare.proofs.plays.trees_in.Given as goal

abbrev pub invariant-loop-domain : goal.invariant-loop-domain
invariant-loop-domain l = l.trees.items ≡ map (trees_in l.hub.world l.hub.log) (take l.domain-index l.domains)
