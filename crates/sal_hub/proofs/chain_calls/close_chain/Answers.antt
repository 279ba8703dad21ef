-- The chain was closed before, or not.
use Rattle.sal_hub.proofs.Noted.{flag_or}
use Rattle.sal_hub.proofs.chain_calls.close_chain.Goals as goal

pub returns-clause-was : goal.returns-clause-was
returns-clause-was c = flag_or c.args.closed.now c.args.id c.requires.low
