-- Bit by bit.
use Rattle.std.proofs.Common.{refl}
use Rattle.sal_script.specs.Play.{new_client}
use Rattle.sal_embed.specs.Waiting.{waiting}
use Rattle.sal_embed.proofs.Slots.{bit_by_bit}
use Rattle.sal_embed.proofs.waiting.waiting_before.Goals as goal

pub returns : goal.returns
returns c = bit_by_bit _ _ _ _ _ (waiting c.args.hub.now c.args.client new_client c.args.slot) c.has_request.ensures c.has_notes.ensures refl refl refl
