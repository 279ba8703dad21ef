use Rattle.sal_tx.proofs.Nexts.{holds-recorded}
use Rattle.sal_tx.proofs.tx.WriteTx.recorded.Goals as goal

pub invariant_of-self : goal.invariant_of-self
invariant_of-self g c =
    holds-recorded c.self.inside.view c.self.inside.parts c.record_read.new.parts c.args.store c.args.path.now c.record_read.result c.record_read.ensures.ok c.record_read.ensures.err c.self.invariant
