-- The hub's mounts are those of its log, and the effect of a call on them.
use Rattle.std.specs.Prelude.{◌≡◌, ℕ, length, Result, Ok, Err}
use Rattle.sal_mount.specs.declared.call.MountFault.{MountFault}
use Rattle.sal_mount.specs.declared.call.MountFault.TheVariants.{NoMemory}
use Rattle.sal_mount.specs.Register.{IsOf, Register}
use Rattle.sal_history.specs.declared.call.Call.{Call}
use Rattle.sal_history.specs.History.{history}
use Rattle.sal_history.specs.Services.{mounting}
use Rattle.sal_hub.specs.Journals.{Noted, jotted, mark_at}
use Rattle.sal_hub.specs.HubHistory.{HubHistory}

-- as many devices as there are domains, and the register of the calls
pub record AreMounted (known : HubHistory) (mounts : Register) : Type 0 where
  pub devices : mounts.devices ≡ length known.world
  pub calls : IsOf (mounting (history known.world known.log)) mounts

-- ---- effects of calls

-- the entry of the client's call was added
pub record IsJotted (old new : Noted) (client : ℕ) (call : Call) : Type 0 where
  pub log : new.log ≡ jotted old.log client call
  pub marks : (k : ℕ) → mark_at new.marks k ≡ mark_at old.marks k

-- the same for a call that has its entry also if it is refused, but not if memory ran out
abbrev pub Enters : {X : Type 0} → Noted → Noted → ℕ → Call → Result X MountFault → Type 0
Enters old new client call (Ok x) = IsJotted old new client call
Enters old new client call (Err NoMemory) = new ≡ old
Enters old new client call (Err fault) = IsJotted old new client call
