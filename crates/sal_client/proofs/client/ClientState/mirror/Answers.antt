-- What the listener in the slot shows.
use Rattle.std.proofs.Common.{sym, subst}
use Rattle.sal_script.specs.Moves.{Mirror}
use Rattle.sal_client.specs.Meeting.{Answers}
use Rattle.sal_client.proofs.Looking.{mirrors_nothing}
use Rattle.sal_client.proofs.client.ClientState.mirror.Goals as goal

pub returns-in-None : goal.returns-in-None
returns-in-None c =
    let client = c.args.self.now in
    subst (λ r. Answers c.args.readers.now client (Mirror c.args.slot) r client) (sym c.refused.ensures) (mirrors_nothing c.args.readers.now client c.args.slot (sym c.in-None.ensures))
