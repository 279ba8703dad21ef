-- The domains of a script, by number.
use Rattle.std.proofs.Common.{◌≡◌, ℕ, ◌-◌, ◌<◌, zero, suc, List, [], ◌∷◌, length, get_or, Option, Some, ap, sym, subst, arith}
use Rattle.std.specs.Prelude.{slice_get}
use Rattle.sal_script.specs.declared.script.ScriptDevice.{ScriptDevice}
use Rattle.sal_script.specs.Script.{DeviceParts}
use Rattle.sal_script.specs.Reading.{device, devices}

device_of_index : (ds : List ScriptDevice) (k : ℕ) (d : ScriptDevice) → k < length ds → d ≡ get_or ds k d → slice_get (devices ds) k ≡ Some (device d)
device_of_index [] k d within is = absurd (omega (arith, within))
device_of_index (x ∷ ds) zero d within is = ap (λ (y : ScriptDevice). Some (device y)) (sym is)
device_of_index (x ∷ ds) (suc k) d within is = device_of_index ds k d (omega (arith, within)) is

-- after the controller's own
pub behind_own : (own : DeviceParts) (ds : List ScriptDevice) (n : ℕ) (d : ScriptDevice) → 0 < n → n - 1 < length ds → d ≡ get_or ds (n - 1) d → slice_get (own ∷ devices ds) n ≡ Some (device d)
behind_own own ds zero d behind within is = absurd (omega (arith, behind))
behind_own own ds (suc k) d behind within is =
    let before : suc k - 1 ≡ k = omega (arith) in
    device_of_index ds k d (subst (λ i. i < length ds) before within) (subst (λ i. d ≡ get_or ds i d) before is)
