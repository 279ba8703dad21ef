-- What the requests that clients are handed leave in the slots.
use Rattle.std.proofs.Common.{◌≡◌, ℕ, Option, None, Some}
use Rattle.std.specs.Option.{option_map}
use Rattle.sal_rpc.specs.declared.call.Request.{Request}
use Rattle.sal_script.specs.Moves.{NextCall}
use Rattle.sal_script.specs.Play.{keep, Spot}
use Rattle.sal_hub.specs.Routed.{request_reply}
use Rattle.sal_client.specs.declared.client.ClientState.{ClientState}
use Rattle.sal_client.specs.declared.rpcs.Invocation.{Invocation}
use Rattle.sal_client.specs.Asked.{handed_of, handed_with, invocation_of}
use Rattle.sal_client.specs.Clients.{client_of}
use Rattle.sal_client.specs.Slots.{held}
use Rattle.sal_client.proofs.Places.{seen-filled}

pub kept_handed : (old : ClientState) (after : ℕ → Option Invocation) (slot : ℕ) (spot : Spot) (found : Option Request) → after ≡ handed_with slot found (held old.handed)
    → record (client_of old) { handed = λ k. option_map invocation_of (after k) } ≡ keep spot (NextCall slot) (request_reply found) (client_of old)
kept_handed old after slot spot None is = λ i. record (client_of old) { handed = λ k. option_map invocation_of (is i k) }
kept_handed old after slot spot (Some request) is =
    let filled = seen-filled invocation_of (held old.handed) after slot (handed_of request) is in
    λ i. record (client_of old) { handed = filled i }
