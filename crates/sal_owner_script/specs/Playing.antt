-- The effect of a step on the book.
use Rattle.std.specs.Prelude.{◌≡◌, ◌+◌, ⊤, List, Result, Ok, Err, length}
use Rattle.sal_owner.specs.declared.call.OwnerEntry.{OwnerEntry}
use Rattle.sal_owner.specs.declared.call.OwnerFault.{OwnerFault}
use Rattle.sal_owner.specs.declared.call.OwnerFault.TheVariants.{NoMemory}
use Rattle.sal_owner.specs.declared.call.OwnerReply.{OwnerReply}
use Rattle.sal_owner.specs.declared.call.OwnerReply.TheVariants.{Refused}
use Rattle.sal_owner.specs.Ownership.{make, made_of, reply}
use Rattle.sal_owner_script.specs.declared.step.OwnerStep.{OwnerStep}
use Rattle.sal_owner_script.specs.Replies.{entry_of}

-- the log has the step's call at its end, and the reply is the one by the log before it
pub record Plays (old new : List OwnerEntry) (step : OwnerStep) (answer : OwnerReply) : Type 0 where
  pub made : made_of new ≡ make (made_of old) (entry_of step)
  pub longer : length new ≡ length old + 1
  pub reply : reply old step.client step.call ≡ answer

-- the same, unless memory ran out
abbrev pub PlaysOr : {F : Type 0} → List OwnerEntry → List OwnerEntry → OwnerStep → Result OwnerReply F → Type 0
PlaysOr old new step (Ok answer) = Plays old new step answer
PlaysOr old new step (Err fault) = ⊤

-- the reply of a refusal; `NoMemory` has none
abbrev pub IsRefusal : OwnerFault → OwnerReply → Type 0
IsRefusal NoMemory answer = ⊥
IsRefusal fault answer = answer ≡ Refused fault
