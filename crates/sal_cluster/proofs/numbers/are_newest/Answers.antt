-- One that differs decides.
use Rattle.std.proofs.Common.{arith}
use Rattle.sal_cluster.proofs.Numbered.{agrees, all_agree, differs}
use Rattle.sal_cluster.proofs.numbers.are_newest.Goals as goal

pub returns-then-not-is_newest : goal.returns-then-not-is_newest
returns-then-not-is_newest c =
    let l = c.loop-index in
    differs c.args.hub.now c.args.bases.now c.args.newest.now l.index _ _ _ c.loop-index-test.true l.invariant c.is_newest.ensures c.if-not-is_newest.true

pub loop-index-preserved : goal.loop-index-preserved
loop-index-preserved c =
    let l = c.loop-index in
    agrees c.args.hub.now c.args.bases.now c.args.newest.now l.index _ _ _ c.loop-index-test.true l.invariant c.is_newest.ensures c.if-not-is_newest.false

pub returns : goal.returns
returns c = let l = c.loop-index in all_agree c.args.hub.now c.args.bases.now c.args.newest.now l.index _ (omega (arith, c.loop-index-test.false)) l.invariant
