-- The result and the effect of a call of an embedded broker.
use Rattle.std.specs.Prelude.{◌≡◌, ◌≤◌, ◌<◌, ℕ, Bool, true, false, List, [], Option, length, slice_get, Result, Ok, Err, if◌then◌else◌, not}
use Rattle.std.specs.List.{flat_map}
use Rattle.std.specs.Option.{is_some, option_map_or}
use Rattle.sal_types.specs.declared.memory.NoMemory.{NoMemory as Wanting}
use Rattle.sal_script.specs.Moves.{Move}
use Rattle.sal_script.specs.Report.{reply_text, report}
use Rattle.sal_script.specs.Script.{one_step}
use Rattle.sal_script.specs.Tables.{tables_of}
use Rattle.sal_script.specs.declared.reply.StepReply.{StepReply}
use Rattle.sal_hub.specs.Answers.{limit}
use Rattle.sal_client.specs.Wishes.{GrowsAtMost}
use Rattle.sal_embed.specs.declared.caller.Caller.{Caller}
use Rattle.sal_embed.specs.declared.clients.Clients.{Clients}
use Rattle.sal_embed.specs.declared.fault.StepFault.{StepFault}
use Rattle.sal_embed.specs.declared.fault.StepFault.TheVariants.{BadStep, BadClient, Full, Lost, NoMemory, Untold, Broken}
use Rattle.sal_embed.specs.Broker.{AreThrough}
use Rattle.sal_embed.specs.Scripts.{Programs, Replies, listed, with}

-- The clients made these steps, and have these replies.
abbrev pub HasCome : Clients → Programs → Replies → Type 0
HasCome it programs replies = AreThrough it.hub it.callers.items programs replies

-- memory ran out in an earlier step of the client
abbrev pub is_lost : Clients → ℕ → Bool
is_lost it c = option_map_or (λ (caller : Caller). not (is_some caller.run)) (slice_get it.callers.items c) false

-- no client is lost, or found again
abbrev pub LosesNone : Clients → Clients → Type 0
LosesNone old new = (k : ℕ) → is_lost new k ≡ is_lost old k

-- none but this one
abbrev pub LosesNoOther : ℕ → Clients → Clients → Type 0
LosesNoOther c old new = (k : ℕ) → (k ≡ c → ⊥) → is_lost new k ≡ is_lost old k

-- no step was made
pub record IsSame (old new : Clients) : Type 0 where
  pub hub : new.hub ≡ old.hub
  pub come : (programs : Programs) (replies : Replies) → HasCome old programs replies → HasCome new programs replies

-- client c made this step, with this reply
pub record HasStepped (old new : Clients) (c : ℕ) (step : Move) (r : StepReply) : Type 0 where
  pub grows : GrowsAtMost c old.hub new.hub
  pub come : (programs : Programs) (replies : Replies) → HasCome old programs replies → HasCome new (with c step programs) (with c r replies)

-- A step of the client, which has a place: it was made, and this is the text of its reply; or it was not, or its reply is not known.
abbrev pub Makes : Clients → Clients → ℕ → Move → Result (List ℕ) StepFault → Type 0
Makes old new c step (Ok text) = (r : StepReply) × (text ≡ reply_text (tables_of old.hub.world) r) × HasStepped old new c step r × LosesNone old new
Makes old new c step (Err Untold) = (r : StepReply) × HasStepped old new c step r × LosesNone old new
Makes old new c step (Err Full) = (limit ≤ length old.hub.log) × IsSame old new × LosesNone old new
Makes old new c step (Err Lost) = (is_lost old c ≡ true) × IsSame old new × LosesNone old new
Makes old new c step (Err NoMemory) = IsSame old new × LosesNoOther c old new
Makes old new c step (Err Broken) = GrowsAtMost c old.hub new.hub
Makes old new c step (Err fault) = ⊥

-- the result of a step, by whether the log has grown: if it has, `NoMemory` is that of a call that was made
abbrev pub broken_if : Bool → Result (List ℕ) StepFault → Result (List ℕ) StepFault
broken_if grown (Err NoMemory) = Err (if grown then Broken else NoMemory)
broken_if grown result = result

-- some clients have a place more
pub record IsPlacing (old new : Clients) : Type 0 where
  pub same : IsSame old new
  pub loses : LosesNone old new

-- The step that the bytes denote was made by client c, and so on; or they are no step, or the client has no valid number.
abbrev pub Steps : Clients → Clients → ℕ → List ℕ → Result (List ℕ) StepFault → Type 0
Steps old new c bytes (Err BadClient) = (65536 ≤ c) × (new ≡ old)
Steps old new c bytes (Err BadStep) = (c < 65536) × ((place : List ℕ) × (one_step old.checked_reads bytes ≡ Err place)) × (new ≡ old)
Steps old new c bytes (Err NoMemory) = IsSame old new × LosesNoOther c old new
Steps old new c bytes result = (c < 65536) × ((step : Move) × (one_step old.checked_reads bytes ≡ Ok step) × Makes old new c step result)

-- the report of all steps
abbrev pub Reports : Clients → Clients → Result (List ℕ) Wanting → Type 0
Reports old new (Ok text) =
    ((programs : Programs) (replies : Replies) → HasCome old programs replies → text ≡ report old.hub.world (record { log = old.hub.log; replies = listed (length old.callers.items) replies }))
    × IsSame old new × LosesNone old new
Reports old new (Err wanting) = IsSame old new × LosesNone old new
