-- The mounts at the end of an epoch: the mounts of a log are applied again, and those with a live domain are listed.
use Rattle.std.specs.Prelude.{◌≡◌, ℕ, Bool, List, [], ◌∷◌, ◌++◌, cond, length, map}
use Rattle.std.specs.List.{filter, fold}
use Rattle.sal_types.specs.declared.value.Step.{Step}
use Rattle.sal_mount.specs.declared.call.MountCall.{MountCall}
use Rattle.sal_mount.specs.Mounts.{Made, Mounted, is_live, made_of, mounted}
use Rattle.sal_mount.specs.Register.{IsOf, Register}
use Rattle.sal_history.specs.History.{history}
use Rattle.sal_history.specs.Services as services
use Rattle.sal_hub.specs.HubHistory.{HubHistory}
use Rattle.sal_epoch.specs.declared.mounts.Mount.{Mount}

-- the mounts whose domain is live, in the order in which they were made
abbrev pub standing : List Made → List Mounted
standing made = filter (λ m. is_live made m.device) (mounted made)

-- those of a hub
abbrev pub mounts_left : HubHistory → List Mounted
mounts_left known = standing (services.mounted (length known.world) (history known.world known.log))

-- ---- how they are found

abbrev pub mounted_at : ℕ → List Step → Mounted
mounted_at device path = record { device = device; path = path }

abbrev pub mount_of : Mount → Mounted
mount_of m = mounted_at m.device m.path

-- the register is that of these calls, and the list has the mounts that they made
pub record Follows (calls : List MountCall) (r : Register) (made : List Mount) : Type 0 where
  pub register : IsOf calls r
  pub all : map mount_of made ≡ mounted (made_of r.devices calls)

-- one more mount, if its domain is live
abbrev pub with_live : (ℕ → Bool) → List Mounted → Mount → List Mounted
with_live live ms m = ms ++ cond (live m.device) (mount_of m ∷ []) []

abbrev pub live_among : (ℕ → Bool) → List Mount → List Mounted
live_among live made = fold (with_live live) [] made

-- whether a domain is live after these calls
abbrev pub live_after : Register → List MountCall → ℕ → Bool
live_after r calls d = is_live (made_of r.devices calls) d
