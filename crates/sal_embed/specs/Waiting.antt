-- What waits for a client: what the next step that it makes would give.
use Rattle.std.specs.Prelude.{◌≡◌, ℕ, ◌+◌, Bool, true, false, if◌then◌else◌}
use Rattle.std.specs.Option.{is_some, option_map_or}
use Rattle.sal_history.specs.History.{history, outcomes}
use Rattle.sal_history.specs.Numbered.{numbered}
use Rattle.sal_script.specs.Moves.{Move, Collect, NextCall, Take, TakeNotes}
use Rattle.sal_script.specs.Play.{Client, Meeting, local, meet, shared}
use Rattle.sal_script.specs.Tables.{versions_of}
use Rattle.sal_hub.specs.HubHistory.{HubHistory}
use Rattle.sal_hub.specs.Waiting.{would_give}
use Rattle.sal_client.specs.Clients.{client_of}
use Rattle.sal_embed.specs.declared.caller.Caller.{Caller}
use Rattle.sal_embed.specs.declared.clients.Clients.{Clients}
use Rattle.sal_embed.specs.declared.waiting.Waiting.{Waiting}
use Rattle.sal_embed.specs.Broker.{IsThrough}
use Rattle.sal_embed.specs.Outcomes.{HasCome, is_lost}
use Rattle.sal_embed.specs.Scripts.{Programs, Replies}

-- a shared call would hand something over; a local reply hands over nothing
abbrev pub gives_in : HubHistory → ℕ → Meeting → Bool
gives_in known c (local r next) = false
gives_in known c (shared call) = would_give known c call

-- the reply to this step of client c would hand something over, if the step was made now
abbrev pub step_gives : HubHistory → ℕ → Client → Move → Bool
step_gives known c client step = gives_in known c (meet (versions_of known.world) known.world known.log client step)

-- the submission of this receipt is decided
abbrev pub is_decided : HubHistory → ℕ → Bool
is_decided known receipt = is_some (numbered (outcomes (history known.world known.log)) receipt)

-- What waits for client c at this number of its slots: what a step would give, and whether a settle would find the outcome decided.
abbrev pub waiting : HubHistory → ℕ → Client → ℕ → Waiting
waiting known c client slot = record {
  request = step_gives known c client (NextCall slot);
  notes = step_gives known c client TakeNotes;
  answer = step_gives known c client (Collect slot);
  decided = option_map_or (is_decided known) (client.receipts slot) false;
  changes = step_gives known c client (Take slot);
}

abbrev pub nothing : Waiting
nothing = record { request = false; notes = false; answer = false; decided = false; changes = false }

-- the same of a client that is kept; a lost one makes no more steps
abbrev pub waiting_for : HubHistory → Caller → ℕ → Waiting
waiting_for known caller slot = option_map_or (λ run. waiting known caller.number (client_of run.client) slot) caller.run nothing

-- What waits for client c: by its state after the steps that it made, whatever these are. Nothing waits for a lost client.
abbrev pub WaitsUnless : Bool → Clients → ℕ → ℕ → Waiting → Type 0
WaitsUnless true it c slot result = result ≡ nothing
WaitsUnless false it c slot result =
    (programs : Programs) (replies : Replies) → HasCome it programs replies
    → (at : IsThrough it.hub.world it.hub.log c (programs c) (replies c)) × (result ≡ waiting it.hub c at.client slot)

abbrev pub Waits : Clients → ℕ → ℕ → Waiting → Type 0
Waits it c slot result = WaitsUnless (is_lost it c) it c slot result

-- ---- as a number

abbrev pub bit : ℕ → Bool → ℕ
bit value is = if is then value else 0

abbrev pub bits : Waiting → ℕ
bits it = bit 1 it.request + (bit 2 it.notes + (bit 4 it.answer + (bit 8 it.decided + bit 16 it.changes)))
