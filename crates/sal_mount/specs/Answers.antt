-- The effect of a call: the register of one call more and the reply by the definition, or, if memory ran out, no change.
use Rattle.std.specs.Prelude.{◌≡◌, List, [], ◌∷◌, ◌++◌, Result, MatchResult}
use Rattle.sal_mount.specs.declared.call.MountCall.{MountCall}
use Rattle.sal_mount.specs.declared.call.MountFault.{MountFault}
use Rattle.sal_mount.specs.declared.call.MountFault.TheVariants.{NoDomain, DeviceUsed, MountTaken, NoMemory}
use Rattle.sal_mount.specs.declared.call.MountReply.{MountReply}
use Rattle.sal_mount.specs.declared.call.MountReply.TheVariants.{Refused}
use Rattle.sal_mount.specs.Mounts.{made_of, reply_to}
use Rattle.sal_mount.specs.Register.{IsOf, Register}

-- the call was made: for any earlier calls, the register is that of one call more, and the reply is theirs
pub record Makes (old new : Register) (call : MountCall) (reply : MountReply) : Type 0 where
  pub devices : new.devices ≡ old.devices
  pub longer : (calls : List MountCall) → IsOf calls old → IsOf (calls ++ call ∷ []) new
  pub answer : (calls : List MountCall) → IsOf calls old → reply_to old.devices (made_of old.devices calls) call ≡ reply

-- a refused call is one of the calls, and changes nothing else
pub record IsRefused (old new : Register) (call : MountCall) (fault : MountFault) : Type 0 where
  pub made : Makes old new call (Refused fault)
  pub same : new ≡ old

-- a fault of a call that takes no memory
abbrev pub Refuses : Register → Register → MountCall → MountFault → Type 0
Refuses old new call NoMemory = ⊥
Refuses old new call (NoDomain id) = IsRefused old new call (NoDomain id)
Refuses old new call (DeviceUsed id) = IsRefused old new call (DeviceUsed id)
Refuses old new call (MountTaken id) = IsRefused old new call (MountTaken id)

-- a fault of a call
abbrev pub Fails : Register → Register → MountCall → MountFault → Type 0
Fails old new call NoMemory = new ≡ old
Fails old new call fault = Refuses old new call fault

-- a call that returns its result, or a fault
abbrev pub Answers : {X : Type 0} → Register → Register → MountCall → (X → MountReply) → Result X MountFault → Type 0
Answers old new call good result = MatchResult result (λ x. Makes old new call (good x)) (Fails old new call)

-- the same for a call that takes no memory
abbrev pub AnswersAlways : {X : Type 0} → Register → Register → MountCall → (X → MountReply) → Result X MountFault → Type 0
AnswersAlways old new call good result = MatchResult result (λ x. Makes old new call (good x)) (Refuses old new call)
