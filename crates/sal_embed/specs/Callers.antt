-- The effect of one step on its client.
use Rattle.std.specs.Prelude.{Vec, decimal, MatchOption, string_bytes, ◌≡◌, ◌≤◌, ℕ, ⊤, List, [], ◌∷◌, ◌++◌, Option, None, Some, Result, Ok, Err, length, true, false}
use Rattle.std.specs.Option.{is_some}
use Rattle.std.specs.declared.alloc.Global.{Global}
use Rattle.sal_schema.specs.declared.table.SchemaTable.{SchemaTable}
use Rattle.sal_script.specs.Moves.{Move}
use Rattle.sal_script.specs.Report.{number, reply_text}
use Rattle.sal_script.specs.Play.{new_client}
use Rattle.sal_script.specs.declared.reply.StepReply.{StepReply}
use Rattle.sal_hub.specs.Answers.{limit}
use Rattle.sal_hub.specs.HubHistory.{HubHistory}
use Rattle.sal_client.specs.declared.run.ClientRun.{ClientRun}
use Rattle.sal_client.specs.Clients.{IsSound, client_of}
use Rattle.sal_embed.specs.declared.caller.Caller.{Caller}
use Rattle.sal_embed.specs.declared.fault.StepFault.{StepFault}
use Rattle.sal_embed.specs.declared.fault.StepFault.TheVariants.{Full, Lost, NoMemory, Untold}
use Rattle.sal_embed.specs.Broker.{StandsAt, untold}

-- a client before its first step
pub record IsFresh (c : ℕ) (caller : Caller) : Type 0 where
  pub number : caller.number ≡ c
  pub run : MatchOption caller.run ⊥ (λ run. (run.client.number ≡ c) × (client_of run.client ≡ new_client) × ((known : HubHistory) → IsSound known run.client))
  pub lines : string_bytes caller.lines ≡ []
  pub told : caller.told ≡ 0

-- the line of a step whose reply has this text
abbrev pub line_with : ℕ → ℕ → List ℕ → List ℕ
line_with client step text = decimal client ++ (number step ++ (32 ∷ (text ++ (10 ∷ []))))

-- the pending reply is written as this text; none is, if there was none
abbrev pub IsTold : List SchemaTable → Caller → Option (List ℕ) → Type 0
IsTold tables old None = untold old ≡ []
IsTold tables old (Some text) = (r : StepReply) × (untold old ≡ r ∷ []) × (text ≡ reply_text tables r)

-- the run, without a reply
abbrev pub IsLetGo : ClientRun → ClientRun → Type 0
IsLetGo old new = (none : Vec StepReply Global) × (none.items ≡ []) × (new ≡ record old { client = record old.client { replies = none } })

-- the same, if there is one
abbrev pub IsEmptied : Option ClientRun → Option ClientRun → Type 0
IsEmptied None None = ⊤
IsEmptied (Some old) (Some new) = IsLetGo old new
IsEmptied old new = ⊥

-- the same client, but without a reply that is not written
pub record IsForgotten (old new : Caller) : Type 0 where
  pub number : new.number ≡ old.number
  pub lines : new.lines ≡ old.lines
  pub told : new.told ≡ old.told
  pub run : IsEmptied old.run new.run

-- no further step was made
pub record IsSameAt (known : HubHistory) (old : Caller) (known' : HubHistory) (new : Caller) : Type 0 where
  pub hub : known' ≡ known
  pub stands : (steps : List Move) (rs : List StepReply) → StandsAt known old.number steps rs old → StandsAt known old.number steps rs new

-- one more step was made, with this reply
abbrev pub GoesOn : HubHistory → Caller → Move → StepReply → HubHistory → Caller → Type 0
GoesOn known old step r known' new =
    (steps : List Move) (rs : List StepReply) → StandsAt known old.number steps rs old → StandsAt known' old.number (steps ++ step ∷ []) (rs ++ r ∷ []) new

-- it was made, and its reply is not written
abbrev pub IsMade : HubHistory → Caller → Move → HubHistory → Caller → Type 0
IsMade known old step known' new = (r : StepReply) × (untold new ≡ r ∷ []) × (is_some new.run ≡ is_some old.run) × GoesOn known old step r known' new

-- there is a reply that is not written
abbrev pub Waits : Caller → Type 0
Waits caller = untold caller ≡ [] → ⊥

-- the pending reply is written, or memory ran out
abbrev pub IsFinished : List SchemaTable → Caller → Result (List ℕ) StepFault → Type 0
IsFinished tables old (Ok text) = (r : StepReply) × (untold old ≡ r ∷ []) × (text ≡ reply_text tables r)
IsFinished tables old (Err Untold) = Unit {0}
IsFinished tables old (Err fault) = ⊥

-- Why it was not made. If memory runs out, the client is lost, and there is no further condition if the log has the call's entry.
abbrev pub Fails : HubHistory → Caller → HubHistory → Caller → StepFault → Type 0
Fails known old known' new Lost = (is_some old.run ≡ false) × (is_some new.run ≡ false) × IsSameAt known old known' new
Fails known old known' new Full = (limit ≤ length known.log) × (is_some new.run ≡ is_some old.run) × IsSameAt known old known' new
Fails known old known' new NoMemory = known' ≡ known → IsSameAt known old known' new
Fails known old known' new fault = ⊥

-- the result of a step, with the text of its reply
abbrev pub Steps : List SchemaTable → HubHistory → Caller → Move → HubHistory → Caller → Result (List ℕ) StepFault → Type 0
Steps tables known old step known' new (Ok text) = (r : StepReply) × (text ≡ reply_text tables r) × (is_some new.run ≡ is_some old.run) × GoesOn known old step r known' new
Steps tables known old step known' new (Err Untold) = (r : StepReply) × (is_some new.run ≡ is_some old.run) × GoesOn known old step r known' new
Steps tables known old step known' new (Err fault) = Fails known old known' new fault
