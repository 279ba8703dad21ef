use Rattle.std.proofs.Common.{subst}
use Rattle.sal_check.specs.Uniques.{Holds}
use Rattle.sal_check.proofs.Doubles.{holds-more, all-all}
use Rattle.sal_check.proofs.fresh.set_of.Goals as goal

pub loop-cells-preserved : goal.loop-cells-preserved
loop-cells-preserved c =
    holds-more c.args.fresh.now c.loop-cells.cells-index c.cells-item.result c.as_slice.result c.as_slice.ensures.value c.loop-cells-test.true c.cells-item.is c.loop-cells.set c.insert.new.self c.loop-cells.invariant (λ q. c.in_ok-insert.ensures.updates.0 q)

pub returns : goal.returns
returns c = subst (Holds c.loop-cells.set) (all-all c.args.fresh.now c.loop-cells.cells-index c.loop-cells-test.false) c.loop-cells.invariant
