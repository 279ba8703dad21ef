-- The register of calls on mounts, by number and by path.
use Rattle.std.specs.Prelude.{◌≡◌, ℕ, Bool, true, false, not, List, [], ◌∷◌, Option, Some, None, if◌then◌else◌}
use Rattle.std.specs.BTreeMap.{is_at}
use Rattle.std.specs.Map.{lookup}
use Rattle.std.specs.Option.{IfSome, is_some, option_map, option_or, unwrap_or}
use Rattle.std.specs.Ordering.{nat_cmp}
use Rattle.sal_types.specs.declared.value.Step.{Step}
use Rattle.sal_types.specs.Order.{path_cmp}
use Rattle.sal_mount.specs.declared.call.MountCall.{MountCall}
use Rattle.sal_mount.specs.declared.call.MountFault.{MountFault}
use Rattle.sal_mount.specs.declared.call.MountFault.TheVariants.{NoDomain, DeviceUsed, MountTaken}
use Rattle.sal_mount.specs.Mounts.{Made, fault_if, is_device, is_unmounted, made_of, standing, was_mounted}

-- The number of domains, the controller's own included; which device was mounted last at a path; and for each device that
-- was ever mounted, whether it still is.
pub record Register : Type 0 where
  pub devices : ℕ
  pub places : List (List Step × ℕ)
  pub states : List (ℕ × Bool)

-- none if the device was never mounted
abbrev pub state_at : List (ℕ × Bool) → ℕ → Option Bool
state_at states device = lookup (is_at (nat_cmp device)) states

abbrev pub last_at : List (List Step × ℕ) → List Step → Option ℕ
last_at places path = lookup (is_at (path_cmp path)) places

-- the device is mounted now
abbrev pub is_up : List (ℕ × Bool) → ℕ → Bool
is_up states device = unwrap_or (state_at states device) false

abbrev pub live_of : List (ℕ × Bool) → Option ℕ → Option ℕ
live_of states None = None
live_of states (Some device) = if is_up states device then Some device else None

-- the live domain that is mounted at the path
abbrev pub live_at : Register → List Step → Option ℕ
live_at r path = live_of r.states (last_at r.places path)

-- why the device is not mounted at the path
abbrev pub refusal_by : Register → List Step → ℕ → Option MountFault
refusal_by r path device =
    option_or (fault_if (not (is_device r.devices device)) (NoDomain device))
    (option_or (fault_if (is_some (state_at r.states device)) (DeviceUsed device)) (option_map MountTaken (live_at r path)))

abbrev pub state_of : Bool → Bool → Option Bool
state_of was gone = if was then Some (not gone) else None

abbrev pub listed : Option ℕ → List ℕ
listed None = []
listed (Some device) = device ∷ []

-- the register is that of these calls
pub record IsKept (made : List Made) (r : Register) : Type 0 where
  pub states : (device : ℕ) → state_at r.states device ≡ state_of (was_mounted made device) (is_unmounted made device)
  pub standing_at : (path : List Step) → standing made path ≡ listed (live_at r path)
  pub named : (path : List Step) → IfSome (last_at r.places path) (λ device. was_mounted made device ≡ true)
  pub mounted_first : (device : ℕ) → was_mounted made device ≡ false → is_unmounted made device ≡ false

abbrev pub IsOf : List MountCall → Register → Type 0
IsOf calls r = IsKept (made_of r.devices calls) r
