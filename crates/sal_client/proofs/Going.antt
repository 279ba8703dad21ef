-- One step of a client's way to its next shared call, and that call.
use Rattle.std.proofs.Common.{◌≡◌, ℕ, ◌+◌, ◌<◌, List, ◌∷◌, length, map, get_or, true, Some, refl, ap, sym, ◌∙◌, subst}
use Rattle.std.proofs.lemmas.List.{drop_more}
use Rattle.sal_history.specs.declared.call.Call.{Call}
use Rattle.sal_history.specs.declared.reply.Reply.{Reply}
use Rattle.sal_history.specs.History.{reply}
use Rattle.sal_script.specs.declared.script.ScriptStep.{ScriptStep}
use Rattle.sal_script.specs.Moves.{Move, move_of}
use Rattle.sal_script.specs.declared.reply.StepReply.{StepReply}
use Rattle.sal_script.specs.declared.reply.StepReply.TheVariants.{Called}
use Rattle.sal_script.specs.Play.{spot_after, Arrival, Client, Made, Meeting, Run, arrive, arrive_by, calls, go, keep, local, make, meet, replied}
use Rattle.sal_script.specs.Tables.{Versions, versions_of}
use Rattle.sal_client.specs.declared.wish.Wish.{Wish}
use Rattle.sal_hub.specs.HubHistory.{HubHistory, entry_of}
use Rattle.sal_client.specs.declared.run.ClientRun.{ClientRun as CodeRun}
use Rattle.sal_client.specs.Clients.{Calls, IsSound, client_of}
use Rattle.sal_client.specs.Wishes.{Makes, ReadBy, move_by}
use Rattle.sal_client.specs.Runs.{Comes, Goes, MakesNext, moves_from}

-- the moves from an index on
from : (steps : List ScriptStep) (i : ℕ) (step : ScriptStep) → i < length steps → step ≡ get_or steps i step → moves_from i steps ≡ move_of step ∷ moves_from (i + 1) steps
from steps i step h at = ap (map move_of) (drop_more steps i step h) ∙ ap (λ (s : ScriptStep). move_of s ∷ moves_from (i + 1) steps) (sym at)

module _ (tables : List Versions) (known : HubHistory) where
  -- a step is met, and then the rest of the way follows
  abbrev onwards : Client → Move → List Move → Meeting → Arrival
  onwards old step rest = arrive_by (λ next. arrive tables known.world known.log next rest) (λ call. calls call step (record { client = old; steps = rest }))

  module _ (old new : Client) (steps : List ScriptStep) (i : ℕ) (step : ScriptStep) where
    -- a step that the client answers by itself
    pub local_turn : i < length steps → step ≡ get_or steps i step → (r : StepReply) × (between : Client) × (meet tables known.world known.log old (move_of step) ≡ local r between) × (new ≡ replied r between)
        → arrive tables known.world known.log old (moves_from i steps) ≡ arrive tables known.world known.log new (moves_from (i + 1) steps)
    local_turn h at (r, between, met, is) =
        ap (arrive tables known.world known.log old) (from steps i step h at) ∙ ap (onwards old (move_of step) (moves_from (i + 1) steps)) met
        ∙ ap (λ (next : Client). arrive tables known.world known.log next (moves_from (i + 1) steps)) (sym is)

    -- a step that asks for a shared call
    pub asks_turn : (wish : Wish) → i < length steps → step ≡ get_or steps i step → move_of step ≡ move_by wish → new ≡ old
        → arrive tables known.world known.log old (moves_from i steps) ≡ arrive tables known.world known.log new (move_by wish ∷ moves_from (i + 1) steps)
    asks_turn wish h at asks same =
        ap (arrive tables known.world known.log old) (from steps i step h at)
        ∙ (λ k. arrive tables known.world known.log (sym same k) (asks k ∷ moves_from (i + 1) steps))

-- a client that made its call continues after it
pub call_turn : (tables : List Versions) (c : ℕ) (known known' : HubHistory) (step : Move) (old between new : Client) (r : StepReply) (call : Call) → Calls tables r c known old step known' between call → new ≡ replied r between → (steps : List Move)
    → go tables known.world known.log c (record { client = old; steps = step ∷ steps }) ≡ Some (record { log = known'.log; run = record { client = new; steps = steps } })
call_turn tables c known known' step old between new r call called is steps =
    let q : Reply = reply known.world known.log (entry_of known c call) in
    let client : new ≡ replied (Called q) (keep (spot_after known.world known.log) step q old) = is ∙ (λ k. replied (called.replied k) (called.kept k)) in
    ap (λ m. make tables known.world known.log c (onwards tables known old step steps m)) called.met
    ∙ (λ k. Some (let made : Made = record { log = (sym called.entry k).log; run = record { client = sym client k; steps = steps } } in made))

pub goes_on : (tables : List Versions) (c : ℕ) (known known' : HubHistory) (wish : Wish) (old between new : Client) (r : StepReply) → Makes tables r c known old (move_by wish) known' between → new ≡ replied r between → MakesNext tables c known wish old known' new
goes_on tables c known known' wish old between new r (call, called) is = (call_turn tables c known known' (move_by wish) old between new r call called is, (entry_of known c call, refl, called.entry))

-- the result of a client's local steps and its call
pub goes : (tables : List Versions) (c : ℕ) (known known' : HubHistory) (wish : Wish) (steps : List ScriptStep) (old mid new : CodeRun) → Comes tables steps old (Some wish) mid → (ReadBy tables wish → MakesNext tables c known wish (client_of mid.client) known' (client_of new.client)) → new.at ≡ mid.at → IsSound known old.client → tables ≡ versions_of known.world → Goes tables true c known steps old known' new
goes tables c known known' wish steps old mid new comes makes at sound of =
    let made = makes comes.2 in (
      ap (make tables known.world known.log c) (comes.0 known sound.steady of) ∙ made.0 (moves_from mid.at steps) ∙ (λ k. Some (let m : Made = record { log = known'.log; run = record { client = client_of new.client; steps = moves_from (sym at k) steps } } in m)),
      made.1,
      subst (λ n. old.at < n) (sym at) comes.3,
    )
