-- Bit by bit.
use Rattle.sal_client.specs.Clients.{client_of}
use Rattle.sal_embed.specs.Waiting.{waiting}
use Rattle.sal_embed.proofs.Slots.{bit_by_bit}
use Rattle.sal_embed.proofs.waiting.waiting_in.Goals as goal

pub returns : goal.returns
returns c =
    bit_by_bit _ _ _ _ _ (waiting c.args.hub.now c.args.client (client_of c.args.run.now.client) c.args.slot) c.has_request.ensures c.has_notes.ensures c.has_answer.ensures c.is_decided.ensures c.has_changes.ensures
