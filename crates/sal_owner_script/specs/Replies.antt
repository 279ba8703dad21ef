-- The text of the replies to steps: a line for each, its number and the reply that the definitions of ownership give.
use Rattle.std.specs.Prelude.{ℕ, ◌+◌, List, [], ◌∷◌, ◌++◌, map, Result, Ok, codes, decimal}
use Rattle.serde_json.specs.Data.{Data, boolean, string}
use Rattle.serde_json.specs.Written.{compact_text}
use Rattle.sal_types.specs.Reading.{◌>>=◌}
use Rattle.sal_script.specs.BatchData.{list_data}
use Rattle.sal_owner.specs.declared.call.OwnerEntry.{OwnerEntry}
use Rattle.sal_owner.specs.declared.call.OwnerFault.{OwnerFault}
use Rattle.sal_owner.specs.declared.call.OwnerFault.TheVariants.{LogFull, AlreadyCandidate, NotCandidate, AlreadyWatching, NoMemory}
use Rattle.sal_owner.specs.declared.call.OwnerReply.{OwnerReply}
use Rattle.sal_owner.specs.declared.call.OwnerReply.TheVariants.{Accepted, State, Watching, Changes, Refused}
use Rattle.sal_owner.specs.declared.entity.Owned.{Owned}
use Rattle.sal_owner.specs.declared.entity.OwnerChange.{OwnerChange}
use Rattle.sal_owner.specs.declared.entity.OwnershipState.{OwnershipState}
use Rattle.sal_owner.specs.declared.entity.OwnershipState.TheVariants.{IsOwner, OwnedByOther, NoOwner}
use Rattle.sal_owner.specs.Ownership.{Text, made_of}
use Rattle.sal_owner_script.specs.declared.step.OwnerStep.{OwnerStep}
use Rattle.sal_owner_script.specs.Steps.{steps_of}

-- ---- one reply

abbrev pub state_text : OwnershipState → Text
state_text IsOwner = codes "is-owner"
state_text OwnedByOther = codes "owned-by-other"
state_text NoOwner = codes "no-owner"

-- `[id,is_owner]`
abbrev pub owned_data : Owned → Data
owned_data o = list_data (string o.id ∷ boolean o.is_owner ∷ [])

-- `[kind,id,was_owner,is_owner,has_owner]`
abbrev pub change_data : OwnerChange → Data
change_data ch = list_data (string ch.entity.kind ∷ string ch.entity.id ∷ boolean ch.was_owner ∷ boolean ch.is_owner ∷ boolean ch.has_owner ∷ [])

abbrev pub fault_text : OwnerFault → Text
fault_text LogFull = codes "log-full"
fault_text AlreadyCandidate = codes "already-candidate"
fault_text NotCandidate = codes "not-candidate"
fault_text AlreadyWatching = codes "already-watching"
fault_text NoMemory = codes "no-memory"

abbrev pub reply_text : OwnerReply → Text
reply_text Accepted = codes "ok"
reply_text (State state) = state_text state
reply_text (Watching list) = codes "watching " ++ compact_text (list_data (map owned_data list))
reply_text (Changes list) = codes "changes " ++ compact_text (list_data (map change_data list))
reply_text (Refused fault) = codes "refused " ++ fault_text fault

-- ---- all of them

abbrev pub reply_line : ℕ → OwnerReply → Text
reply_line i reply = decimal i ++ (32 ∷ (reply_text reply ++ 10 ∷ []))

-- the lines of these, the first with number i
abbrev pub lines_from : ℕ → List OwnerReply → Text
lines_from i [] = []
lines_from i (reply ∷ replies) = reply_line i reply ++ lines_from (i + 1) replies

-- a step as an entry of a log; owners do not depend on an entry's number
abbrev pub entry_of : OwnerStep → OwnerEntry
entry_of s = record { client = s.client; number = 0; call = s.call }

-- the replies to the steps, made in their order
abbrev pub replies_to : List OwnerStep → List OwnerReply
replies_to steps = map (λ m. m.reply) (made_of (map entry_of steps))

abbrev pub steps_text : List OwnerStep → Text
steps_text steps = lines_from 0 (replies_to steps)

-- the text of the replies to the steps that the bytes denote, or the first bad input
abbrev pub owner_text : List ℕ → Result (List ℕ) (List ℕ)
owner_text bytes = steps_of bytes >>= (λ steps. Ok (steps_text steps))
