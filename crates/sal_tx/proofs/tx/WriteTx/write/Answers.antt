use Rattle.sal_tx.proofs.Nexts.{holds-refused}
use Rattle.sal_tx.proofs.tx.WriteTx.write.Goals as goal

pub invariant_of-self : goal.invariant_of-self
invariant_of-self c = holds-refused c.self.inside.view c.self.inside.parts c.refuse.new.parts c.args.op.store c.refuse.result c.refuse.ensures.parts c.self.invariant
