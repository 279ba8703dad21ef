-- The texts of domains, borrowed.
use Rattle.std.proofs.Common.{◌≡◌, ◌<◌, ◌^◌, ◌-◌, ℕ, zero, suc, List, [], ◌∷◌, All, Bor, IsTrue, get_or, length, map, nat_lt, ap, arith, subst, sym}
use Rattle.std.specs.List.{sum_by}
use Rattle.std.proofs.lemmas.Bool.Decides.{nat_tests}
use Rattle.std.proofs.lemmas.List.Elements.{All-cons, All-nil}
use Rattle.std.proofs.lemmas.List.Sums.{sum_by-cons}
use Rattle.sal_script.specs.declared.script.ScriptDevice.{ScriptDevice}
use Rattle.sal_script.specs.Limits.{are_short}
use Rattle.sal_script.specs.Reading.{devices}
use Rattle.sal_script.specs.Script.{DeviceParts}
use Rattle.sal_lint_script.specs.Linted.{texts_in}

each : (texts : List (Bor (List ℕ))) → sum_by length (texts_in texts) < 2 ^ 32 → All (λ (text : Bor (List ℕ)). length text.now < 2 ^ 32) texts
each [] h = All-nil (λ (text : Bor (List ℕ)). length text.now < 2 ^ 32)
each (text ∷ texts) h =
    let sum = sum_by-cons length text.now (texts_in texts) in
    All-cons (λ (text : Bor (List ℕ)). length text.now < 2 ^ 32) text texts (omega (arith, sum, h)) (each texts (omega (arith, sum, h)))

less : (a b : ℕ) → IsTrue (nat_lt a b) → a < b
less a b h = grind (arith, nat_tests)

-- texts that are short together are short
pub each_short : (texts : List (Bor (List ℕ))) (all : List (List ℕ)) → texts_in texts ≡ all → IsTrue (are_short all) → All (λ (text : Bor (List ℕ)). length text.now < 2 ^ 32) texts
each_short texts all is short = each texts (subst (λ (ts : List (List ℕ)). sum_by length ts < 2 ^ 32) (sym is) (less (sum_by length all) (2 ^ 32) short))

abbrev modules_of : DeviceParts → List (List ℕ)
modules_of d = d.modules

of_index : (ds : List ScriptDevice) (k : ℕ) (d : ScriptDevice) → k < length ds → d ≡ get_or ds k d → get_or (map modules_of (devices ds)) k [] ≡ d.modules
of_index [] k d within is = absurd (omega (arith, within))
of_index (x ∷ ds) zero d within is = ap (λ (y : ScriptDevice). y.modules) (sym is)
of_index (x ∷ ds) (suc k) d within is = of_index ds k d (omega (arith, within)) is

-- those of a device
pub of_device : (own : List (List ℕ)) (ds : List ScriptDevice) (n : ℕ) (d : ScriptDevice) → 0 < n → n - 1 < length ds → d ≡ get_or ds (n - 1) d
    → get_or (own ∷ map modules_of (devices ds)) n [] ≡ d.modules
of_device own ds zero d behind within is = absurd (omega (arith, behind))
of_device own ds (suc k) d behind within is =
    let before : suc k - 1 ≡ k = omega (arith) in
    of_index ds k d (subst (λ i. i < length ds) before within) (subst (λ i. d ≡ get_or ds i d) before is)
