-- What each outcome of a shared call leaves.
use Rattle.std.proofs.Common.{◌≡◌, ℕ, List, length, Result, Ok, Err, false, refl, sym, subst, inl, inr}
use Rattle.sal_rows.specs.declared.outcome.CallFault.{CallFault}
use Rattle.sal_history.specs.declared.call.Call.{Call}
use Rattle.sal_history.specs.declared.call.Entry.{Entry}
use Rattle.sal_history.specs.declared.reply.Reply.{Reply}
use Rattle.sal_history.specs.declared.reply.Reply.TheVariants.{Refused}
use Rattle.sal_script.specs.declared.reply.StepReply.{StepReply}
use Rattle.sal_script.specs.declared.reply.StepReply.TheVariants.{Called}
use Rattle.sal_script.specs.Play.{spot_after, keep, meet, shared}
use Rattle.sal_script.specs.Tables.{Versions}
use Rattle.sal_hub.specs.Answers.{Calls, Fails, Made}
use Rattle.sal_hub.specs.HubHistory.{HubHistory, entry_of}
use Rattle.sal_client.specs.declared.client.ClientState.{ClientState}
use Rattle.sal_client.specs.declared.wish.RunFault.{RunFault}
use Rattle.sal_client.specs.declared.wish.RunFault.TheVariants.{HistoryFull, NoMemory}
use Rattle.sal_client.specs.declared.wish.Wish.{Wish}
use Rattle.sal_client.specs.Answers.{IsAnswer, said}
use Rattle.sal_client.specs.Clients.{IsSound, Same, client_of}
use Rattle.sal_client.specs.Leaving.{IsMadeBy, Leaves}
use Rattle.sal_client.specs.Wishes.{GrowsAtMost, ReadBy, Stops, move_by}
use Rattle.sal_client.proofs.Answering.{called, made_refused, stopped}
use Rattle.sal_client.proofs.Soundness.{IsSound-more, TokensLast, is_take}

module _ (wish : Wish) (known known' : HubHistory) (old : ClientState) (call : Call) where
  abbrev e : Entry
  e = entry_of known old.number call

  -- the step asks for the call
  abbrev pub Asks : Type 0
  Asks = (tables : List Versions) → ReadBy tables wish → meet tables known.world known.log (client_of old) (move_by wish) ≡ shared call

  -- the client stays sound after a call that takes nothing
  pub sound_behind : TokensLast → is_take call ≡ false → (answer : Reply) → Made known known' e answer → IsSound known old → IsSound known' old
  sound_behind lasts quiet answer made sound = subst (λ (k : HubHistory). IsSound k old) (sym made.log) (IsSound-more lasts known e old quiet sound)

  module _ (new : ClientState) (same : Same old new) where
    pub leaves_made : Asks → (answer : Reply) (r : StepReply) → Made known known' e answer → r ≡ Called answer → client_of new ≡ keep (spot_after known.world known.log) (move_by wish) answer (client_of old) → IsSound known' new → IsMadeBy wish known old known' new r
    leaves_made asks answer r made replied kept sound = record {
      answers = λ tables read. (call, called tables r old.number known (client_of old) (move_by wish) known' (client_of new) call answer (asks tables read) made replied kept);
      grows = (e, refl, made.log);
      sound = sound;
      same = same;
    }

    pub leaves_refused : Asks → (fault : CallFault) (result : Result StepReply RunFault) → Fails known known' e fault → IsAnswer (Err fault) result → client_of new ≡ keep (spot_after known.world known.log) (move_by wish) (Refused fault) (client_of old) → (Made known known' e (Refused fault) → IsSound known' new)
        → Leaves wish known old known' new result
    leaves_refused asks fault (Ok r) fails is kept sound =
        let made = made_refused known known' e fault fails is.1 is.2 in
        leaves_made asks (Refused fault) r made is.0 kept (sound made)
    leaves_refused asks fault (Err why) fails is kept sound = stopped known known' e fault why fails is

  -- memory ran out after a call that was made
  pub leaves_in_vain : (new : ClientState) (answer : Reply) → Made known known' e answer → Leaves wish known old known' new (Err NoMemory)
  leaves_in_vain new answer made = inr (e, refl, made.log)

  -- a call that changes no slot
  pub leaves_slots : {X : Type 0} → TokensLast → is_take call ≡ false → IsSound known old → Asks → ((r : Reply) → keep (spot_after known.world known.log) (move_by wish) r (client_of old) ≡ client_of old)
      → (good : X → Reply) (given : Result X CallFault) (result : Result StepReply RunFault) → Calls known known' e good given → IsAnswer (said good given) result → Leaves wish known old known' old result
  leaves_slots lasts quiet sound asks kept good (Ok x) (Ok r) made is = leaves_made old (record { number = refl; replies = refl }) asks (good x) r made is (sym (kept (good x))) (sound_behind lasts quiet (good x) made sound)
  leaves_slots lasts quiet sound asks kept good (Ok x) (Err why) made is = absurd is
  leaves_slots lasts quiet sound asks kept good (Err fault) result fails is =
      leaves_refused old (record { number = refl; replies = refl }) asks fault result fails is (sym (kept (Refused fault))) (λ made. sound_behind lasts quiet (Refused fault) made sound)

-- a call for the wish that it is for
pub leaves_for : (wish made : Wish) (known known' : HubHistory) (old new : ClientState) (result : Result StepReply RunFault) → wish ≡ made → Leaves made known old known' new result → Leaves wish known old known' new result
leaves_for wish made known known' old new result is left = subst (λ (w : Wish). Leaves w known old known' new result) (sym is) left

-- a client that stops has made the call or has not
pub stops_grow : (c : ℕ) (known known' : HubHistory) (why : RunFault) → Stops c known known' why → GrowsAtMost c known known'
stops_grow c known known' HistoryFull stops = inl stops.1
stops_grow c known known' NoMemory stops = stops
