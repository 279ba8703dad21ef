-- Which device is mounted where, by the list of calls (`DOMMountPointService` of the MD-SAL developer guide).
use Rattle.std.specs.Prelude.{ℕ, Bool, false, not, ◌&&◌, ◌||◌, List, [], ◌∷◌, ◌++◌, Option, Some, None, if◌then◌else◌, nat_eq, nat_lt, slice_get}
use Rattle.std.specs.List.{filter_map, fold, list_any}
use Rattle.std.specs.Option.{option_map, option_or}
use Rattle.sal_types.specs.declared.value.Step.{Step}
use Rattle.sal_types.specs.Order.{path_eq}
use Rattle.sal_mount.specs.declared.call.MountCall.{MountCall}
use Rattle.sal_mount.specs.declared.call.MountCall.TheVariants.{Mount, Unmount, MountAt as Asks}
use Rattle.sal_mount.specs.declared.call.MountFault.{MountFault}
use Rattle.sal_mount.specs.declared.call.MountFault.TheVariants.{NoDomain, DeviceUsed, MountTaken}
use Rattle.sal_mount.specs.declared.call.MountReply.{MountReply}
use Rattle.sal_mount.specs.declared.call.MountReply.TheVariants.{Accepted, MountAt, Refused}

-- a call with its reply
pub record Made : Type 0 where
  pub call : MountCall
  pub reply : MountReply

-- a device and the path at which it was mounted
pub record Mounted : Type 0 where
  pub device : ℕ
  pub path : List Step

-- the mount that a call with this reply made
abbrev pub mounts : MountCall → MountReply → Option Mounted
mounts (Mount path device) Accepted = Some (record { device = device; path = path })
mounts call reply = None

-- all mounts that were ever made, in order
abbrev pub mounted : List Made → List Mounted
mounted made = filter_map (λ m. mounts m.call m.reply) made

-- a call with this reply unmounted the domain
abbrev pub unmounts : MountCall → MountReply → ℕ → Bool
unmounts (Unmount d) Accepted domain = nat_eq d domain
unmounts call reply domain = false

abbrev pub is_unmounted : List Made → ℕ → Bool
is_unmounted made domain = list_any (λ m. unmounts m.call m.reply domain) made

-- the device was mounted at some time
abbrev pub was_mounted : List Made → ℕ → Bool
was_mounted made device = list_any (λ m. nat_eq m.device device) (mounted made)

-- the controller's own domain is always live, a device's from its mount to its unmount
abbrev pub is_live : List Made → ℕ → Bool
is_live made domain = nat_eq domain 0 || (was_mounted made domain && not (is_unmounted made domain))

-- the device of this mount, if it is at the path and was not unmounted
abbrev pub stands_at : (ℕ → Bool) → List Step → Mounted → Option ℕ
stands_at gone path m = if path_eq path m.path && not (gone m.device) then Some m.device else None

-- the live domains that are mounted at the path
abbrev pub standing : List Made → List Step → List ℕ
standing made path = filter_map (stands_at (is_unmounted made) path) (mounted made)

-- the live domain that is mounted at the path
abbrev pub mount_at : List Made → List Step → Option ℕ
mount_at made path = slice_get (standing made path) 0

abbrev pub refused_or : Option MountFault → MountReply
refused_or None = Accepted
refused_or (Some fault) = Refused fault

abbrev pub fault_if : Bool → MountFault → Option MountFault
fault_if test fault = if test then Some fault else None

-- `devices` is the number of domains, the controller's own included
module _ (devices : ℕ) where
  -- the device exists, and is not the controller's own domain
  abbrev pub is_device : ℕ → Bool
  is_device device = nat_lt 0 device && nat_lt device devices

  -- why the device is not mounted at the path: it does not exist, it was mounted before, or another one is mounted there
  abbrev pub mount_refusal : List Made → List Step → ℕ → Option MountFault
  mount_refusal made path device =
      option_or (fault_if (not (is_device device)) (NoDomain device))
      (option_or (fault_if (was_mounted made device) (DeviceUsed device)) (option_map MountTaken (mount_at made path)))

  -- the reply to a call after these
  abbrev pub reply_to : List Made → MountCall → MountReply
  reply_to made (Mount path device) = refused_or (mount_refusal made path device)
  reply_to made (Unmount domain) = if not (nat_eq domain 0) && is_live made domain then Accepted else Refused (NoDomain domain)
  reply_to made (Asks path) = MountAt (mount_at made path)

  -- one call more, with its reply
  abbrev pub make : List Made → MountCall → List Made
  make made call = made ++ record { call = call; reply = reply_to made call } ∷ []

  -- calls, each with its reply
  abbrev pub made_of : List MountCall → List Made
  made_of calls = fold make [] calls
