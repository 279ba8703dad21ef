-- The number of commit 0 is the base.
use Rattle.std.proofs.Common.{ℕ, subst, arith}
use Rattle.sal_cluster.specs.Leaders.{Sends}
use Rattle.sal_cluster.proofs.leader.Leader.frames.Goals as goal

pub returns-then-above-base : goal.returns-then-above-base
returns-then-above-base c = omega (arith, c.if-above-base.true, c.of-base.ensures)

pub returns : goal.returns
returns c = subst (λ (b : ℕ). Sends c.args.self.now.broker.hub c.args.domain b c.args.above c.frames_above.result) c.of-base.ensures c.frames_above.ensures
