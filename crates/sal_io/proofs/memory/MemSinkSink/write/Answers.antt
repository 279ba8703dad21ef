use Rattle.sal_io.proofs.Faults.{HasCause-called}
use Rattle.sal_io.proofs.memory.MemSinkSink.write.Goals as goal

pub returns-then-fails-clause-cause : goal.returns-then-fails-clause-cause
returns-then-fails-clause-cause c = rw (← c.self.view_is) (HasCause-called _ _ _ _ c.if-fails.true c.count.ensures.counted c.count.ensures.later)
