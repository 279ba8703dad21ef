-- The effect of a call: the boxes of one call more and the reply by the definition, or, if memory ran out, no change.
use Rattle.std.specs.Prelude.{◌≡◌, ℕ, Bool, List, [], ◌∷◌, ◌++◌, Result, MatchResult}
use Rattle.sal_note.specs.declared.call.NoteCall.{NoteCall}
use Rattle.sal_note.specs.declared.call.NoteFault.{NoteFault}
use Rattle.sal_note.specs.declared.call.NoteFault.TheVariants.{NoteRejected, NoMemory}
use Rattle.sal_note.specs.declared.call.NoteReply.{NoteReply}
use Rattle.sal_note.specs.declared.call.NoteReply.TheVariants.{Refused}
use Rattle.sal_note.specs.Queues.{Asked, gives, made_of, reply_to}
use Rattle.sal_note.specs.Boxes.{Boxes, IsOf}

-- The client's call was made: for any earlier calls, the boxes are those of one call more, and the reply is theirs.
pub record Makes (old new : Boxes) (client : ℕ) (call : NoteCall) (reply : NoteReply) : Type 0 where
  pub longer : (calls : List Asked) → IsOf calls old → IsOf (calls ++ record { client = client; call = call } ∷ []) new
  pub answer : (calls : List Asked) → IsOf calls old → reply_to (made_of calls) client call ≡ reply

-- a refused call is one of the calls, and changes nothing else
pub record IsRefused (old new : Boxes) (client : ℕ) (call : NoteCall) (fault : NoteFault) : Type 0 where
  pub made : Makes old new client call (Refused fault)
  pub same : new ≡ old

-- a fault of a call
abbrev pub Fails : Boxes → Boxes → ℕ → NoteCall → NoteFault → Type 0
Fails old new client call NoMemory = new ≡ old
Fails old new client call (NoteRejected subscriber) = IsRefused old new client call (NoteRejected subscriber)

-- a call that returns its result, or a fault
abbrev pub Answers : {X : Type 0} → Boxes → Boxes → ℕ → NoteCall → (X → NoteReply) → Result X NoteFault → Type 0
Answers old new client call good result = MatchResult result (λ x. Makes old new client call (good x)) (Fails old new client call)

-- whether the client's call, made now, would be given something, for any earlier calls
abbrev pub Gives : Boxes → ℕ → NoteCall → Bool → Type 0
Gives b client call given = (calls : List Asked) → IsOf calls b → given ≡ gives (reply_to (made_of calls) client call)
