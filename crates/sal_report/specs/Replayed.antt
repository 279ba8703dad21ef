-- The mounts of a log, applied again, with a flag for each domain that was ever mounted.
use Rattle.std.specs.Prelude.{◌≡◌, ℕ, ◌<◌, Bool, false, List, length, slice_index_or}
use Rattle.sal_mount.specs.declared.call.MountCall.{MountCall}
use Rattle.sal_mount.specs.Mounts.{made_of, was_mounted}
use Rattle.sal_mount.specs.Register.{IsOf, Register}

-- the register is that of these calls, and a domain has its flag if it was ever mounted
pub record Follows (calls : List MountCall) (r : Register) (marks : List Bool) : Type 0 where
  pub register : IsOf calls r
  pub long : length marks ≡ r.devices
  pub each : (d : ℕ) → d < length marks → slice_index_or marks d false ≡ was_mounted (made_of r.devices calls) d
