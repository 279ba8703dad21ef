-- A program of one step: what the client answers, or the call that it makes, is that of the step.
use Rattle.std.proofs.Common.{◌≡◌, ◌≤◌, ◌&&◌, Bool, true, ℕ, arith, List, [], ◌∷◌, ◌++◌, Option, None, Some, refl, ap, sym, ◌∙◌, subst, inl, inr}
use Rattle.std.specs.Prelude.{IfErr, IsTrue, OnOk, Result, Ok, Err, ⊤}
use Rattle.sal_history.specs.declared.call.Call.{Call}
use Rattle.sal_history.specs.declared.call.Entry.{Entry}
use Rattle.sal_history.specs.declared.reply.Reply.{Reply}
use Rattle.sal_history.specs.History.{reply}
use Rattle.sal_history.specs.World.{Domain}
use Rattle.sal_script.specs.declared.reply.StepReply.TheVariants.{Called}
use Rattle.sal_script.specs.declared.script.ScriptStep.{ScriptStep}
use Rattle.sal_script.specs.JsonMoves.{is_json_move}
use Rattle.sal_script.specs.Moves.{Move, move_of}
use Rattle.sal_script.specs.Play.{Arrival, Client, Made, Meeting, Run, arrive, arrive_by, calls, ended, go, keep, local, make, meet, replied, shared, spot_after}
use Rattle.sal_script.specs.Tables.{Versions}
use Rattle.sal_hub.specs.HubHistory.{HubHistory, entry_of, more}
use Rattle.sal_client.specs.declared.client.ClientState.{ClientState}
use Rattle.sal_client.specs.declared.run.ClientRun.{ClientRun}
use Rattle.sal_client.specs.declared.wish.RunFault.{RunFault}
use Rattle.sal_client.specs.declared.wish.RunFault.TheVariants.{HistoryFull, NoMemory}
use Rattle.sal_client.specs.Clients.{client_of}
use Rattle.sal_client.specs.Runs.{IsProgram}
use Rattle.sal_client.specs.Wishes.{GrowsAtMost, GrowsBy}
use Rattle.sal_embed.specs.Answers.{IsAnswered, IsAsBefore, Refuses, Stops}

-- a client at the beginning of a program
abbrev pub begun : ClientState → ClientRun
begun client = record { client = client; at = 0 }

-- a program of one step
pub one_program : (step : ScriptStep) (client : ClientState) → IsTrue (is_json_move (move_of step)) → IsProgram (step ∷ []) (begun client)
one_program step client json = record { within = omega arith; short = omega arith; json = ap (λ (b : Bool). b && true) json }

abbrev client_at : Client → Arrival → Client
client_at other (ended client) = client
client_at other (calls call step run) = other

abbrev log_in : List Entry → Option Made → List Entry
log_in other None = other
log_in other (Some made) = made.log

abbrev client_in : Client → Option Made → Client
client_in other None = other
client_in other (Some made) = made.run.client

module _ (tables : List Versions) (known : HubHistory) (step : Move) (old new : ClientState) where
  -- the place of the client, by the result of the step
  abbrev arrived : Meeting → Arrival
  arrived m = arrive_by (λ next. arrive tables known.world known.log next []) (λ call. calls call step (record { client = client_of old; steps = [] })) m

  -- it reached its end: the step is local
  pub by_itself : arrive tables known.world known.log (client_of old) (step ∷ []) ≡ ended (client_of new) → IsAnswered tables step known old known new
  by_itself is = by (meet tables known.world known.log (client_of old) step) refl is
    where
      by : (m : Meeting) → meet tables known.world known.log (client_of old) step ≡ m → arrived m ≡ ended (client_of new) → IsAnswered tables step known old known new
      by (local r next) met on = (r, next, inl (met, refl), sym (ap (client_at next) on))
      by (shared call) met on = cc

  -- the step made a shared call
  pub by_call : (known' : HubHistory) (rest : List Move) → go tables known.world known.log old.number (record { client = client_of old; steps = step ∷ [] }) ≡ Some (record { log = known'.log; run = record { client = client_of new; steps = rest } })
      → GrowsBy old.number known known' → IsAnswered tables step known old known' new
  by_call known' rest went grown = by (meet tables known.world known.log (client_of old) step) refl went
    where
      by : (m : Meeting) → meet tables known.world known.log (client_of old) step ≡ m
          → make tables known.world known.log old.number (arrived m) ≡ Some (record { log = known'.log; run = record { client = client_of new; steps = rest } }) → IsAnswered tables step known old known' new
      by (local r next) met on = cc
      by (shared call) met on =
          let e : Entry = entry_of known old.number call in
          let r : Reply = reply known.world known.log e in
          let next : Client = keep (spot_after known.world known.log) step r (client_of old) in
          let world : known'.world ≡ known.world = ap (λ (k : HubHistory). k.world) grown.2 in
          let log : known'.log ≡ known.log ++ e ∷ [] = sym (ap (log_in known.log) on) in (
            Called r,
            next,
            inr (call, record { met = met; entry = λ k. let h : HubHistory = record { world = world k; log = log k } in h; replied = refl; kept = refl }),
            sym (ap (client_in next) on),
          )

-- ---- by what a function returned

pub on_ok : {P Q : Type 0} (r : Result ⊤ RunFault) → (P → Q) → OnOk r P → OnOk r Q
on_ok (Ok done) f p = f p
on_ok (Err fault) f p = tt

pub on_fault : {P Q : RunFault → Type 0} (r : Result ⊤ RunFault) → ((fault : RunFault) → P fault → Q fault) → IfErr r P → IfErr r Q
on_fault (Ok done) f p = tt
on_fault (Err fault) f p = f fault p

-- why a step stops, by why its call was not made
pub stops_by : (known known' : HubHistory) (old : ClientState) (mid new : ClientRun) → IsAsBefore known old mid.client → (fault : RunFault) → Refuses known mid known' new fault → Stops known old known' new.client fault
stops_by known known' old mid new before HistoryFull (full, same, is) = (full, same, subst (λ (run : ClientRun). IsAsBefore known old run.client) (sym is) before)
stops_by known known' old mid new before NoMemory grows = subst (λ (n : ℕ). GrowsAtMost n known known') before.number grows
