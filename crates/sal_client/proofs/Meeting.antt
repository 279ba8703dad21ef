-- What a step leaves of the client that meets it.
use Rattle.std.proofs.Common.{◌≡◌, List, None, Some, Result, Ok, refl, ◌∙◌, subst}
use Rattle.std.specs.Prelude.{IfOk}
use Rattle.sal_types.specs.declared.memory.NoMemory.{NoMemory as Wanting}
use Rattle.sal_script.specs.Tables.{Versions}
use Rattle.sal_script.specs.Moves.{Move}
use Rattle.sal_script.specs.declared.reply.StepReply.{StepReply}
use Rattle.sal_script.specs.declared.reply.StepReply.TheVariants as reply
use Rattle.sal_client.specs.declared.client.ClientState.{ClientState}
use Rattle.sal_client.specs.declared.fault.StepFault.{StepFault}
use Rattle.sal_client.specs.declared.fault.StepFault.TheVariants.{Refused, NoMemory}
use Rattle.sal_client.specs.declared.wish.Wish.{Wish}
use Rattle.sal_client.specs.Clients.{HasSchema, StaysSound, client_of}
use Rattle.sal_client.specs.Faults.{IsRefusal}
use Rattle.sal_client.specs.Meeting.{Answers, IsAnswered, IsMet, IsRefusedBy, IsReplied}
use Rattle.sal_client.specs.Wishes.{IsRefused, Wants}

-- a client that stays as it is
pub stays : (c : ClientState) → StaysSound c c
stays c = record { steady = λ known is. is; sound = λ known is. is }

-- a refusal that is one of the client's replies
pub refused_by_reply : (fault : StepFault) (r : StepReply) (old new : ClientState) → IsRefusal fault (let result : Result StepReply Wanting = Ok r in result) → IsReplied r old new → IsRefusedBy fault old new
refused_by_reply (Refused refusal) r old new is kept = subst (λ (x : StepReply). IsReplied x old new) is kept
refused_by_reply NoMemory r old new is kept = is

module _ (tables : List Versions) (old : ClientState) (step : Move) where
  -- a local step
  pub met_answered : (r : StepReply) (between new : ClientState) → IsAnswered tables old step r between → IsReplied r between new → IsMet tables old step None new
  met_answered r between new is kept = record {
    meets = λ known steady of. (r, client_of between, is.answers known steady of, kept.client);
    sound = record { steady = λ known steady. kept.sound.steady known (is.sound.steady known steady); sound = λ known sound. kept.sound.sound known (is.sound.sound known sound) };
    schema = kept.schema tables is.schema;
    number = kept.number ∙ is.same.number;
  }

  -- a step that is refused
  pub met_refused : (fault : StepFault) (new : ClientState) → HasSchema tables old → IsRefused tables old step fault → IsRefusedBy fault old new → IsMet tables old step None new
  met_refused (Refused refusal) new has is kept = record {
    meets = λ known steady of. (reply.Refused refusal, client_of old, is known, kept.client);
    sound = kept.sound;
    schema = kept.schema tables has;
    number = kept.number;
  }
  met_refused NoMemory new has is kept = absurd kept

  -- a step that asks for a call
  pub met_wish : (wish : Wish) → HasSchema tables old → Wants tables old step (Ok wish) → IsMet tables old step (Some wish) old
  met_wish wish has wants = record { meets = (wants.0, wants.1, wants.2, refl); sound = stays old; schema = has; number = refl }

  -- a local step that changes nothing
  pub only_answers : (r : StepReply) → HasSchema tables old → Answers tables old step r old → IsAnswered tables old step r old
  only_answers r has is = record { answers = is; sound = stays old; schema = has; same = record { number = refl; replies = refl } }

-- the same step
pub for_step : (tables : List Versions) (old new : ClientState) (step other : Move) (result : Result StepReply Wanting) → step ≡ other → IfOk result (λ r. IsAnswered tables old step r new) → IfOk result (λ r. IsAnswered tables old other r new)
for_step tables old new step other result same is = subst (λ (m : Move). IfOk result (λ r. IsAnswered tables old m r new)) same is
