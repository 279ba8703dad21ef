-- The rest of the domain is unchanged.
use Rattle.std.proofs.Common.{refl}
use Rattle.sal_hub.proofs.Mounting.{line_with}
use Rattle.sal_hub.proofs.pipeline.Pipeline.set_live.Goals as goal

pub returns-clause-queue : goal.returns-clause-queue
returns-clause-queue c = line_with c.args.self.now c.args.domain c.args.live c.index_mut.result.now _ c.requires.there c.index_mut.ensures.value refl
