-- The receipt of the slot, or none.
use Rattle.std.proofs.Common.{false, Option, ap, ◌∙◌}
use Rattle.std.specs.Option.{option_map, option_map_or}
use Rattle.sal_hub.specs.declared.receipt.Receipt.{Receipt}
use Rattle.sal_client.specs.Clients.{number_of}
use Rattle.sal_embed.specs.Waiting.{is_decided}
use Rattle.sal_embed.proofs.waiting.is_decided.Goals as goal

pub returns-in-Some : goal.returns-in-Some
returns-in-Some c = c.is_decided.ensures ∙ ap (λ (r : Option Receipt). option_map_or (is_decided c.args.hub.now) (option_map number_of r) false) c.in-Some.ensures

pub returns-in-None : goal.returns-in-None
returns-in-None c = ap (λ (r : Option Receipt). option_map_or (is_decided c.args.hub.now) (option_map number_of r) false) c.in-None.ensures
