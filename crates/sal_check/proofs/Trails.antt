-- Trails of steps, and the paths made of them.
use Rattle.std.proofs.Common.{◌≡◌, ℕ, zero, suc, ◌+◌, ◌<◌, ◌≤◌, true, false, List, [], ◌∷◌, ◌++◌, length, take, get_or, Some, None, refl, sym, ap, ◌∙◌, arith}
use Rattle.std.specs.Prelude.{nat_le, if◌then◌else◌}
use Rattle.std.specs.Borrow.{Bor}
use Rattle.std.proofs.lemmas.Bool.Decides.{nat_tests}
use Rattle.sal_types.specs.declared.value.Step.{Step}
use Rattle.sal_check.specs.Nodes.{steps_in}
use Rattle.sal_check.specs.Paths.{joined}
use Rattle.sal_check.proofs.There.{take-all}

pub steps_in-push : (xs : List (Bor Step)) (x : Bor Step) → steps_in (xs ++ x ∷ []) ≡ steps_in xs ++ x.now ∷ []
steps_in-push [] x = refl
steps_in-push (y ∷ xs) x = ap (λ (l : List Step). y.now ∷ l) (steps_in-push xs x)

pub steps_in-at : (xs : List (Bor Step)) (i : ℕ) (x : Bor Step) → i < length xs → x ≡ get_or xs i x → take (i + 1) (steps_in xs) ≡ take i (steps_in xs) ++ x.now ∷ []
steps_in-at [] i x l at = absurd (omega arith)
steps_in-at (y ∷ xs) zero x l at = ap (λ (e : Bor Step). e.now ∷ []) (sym at)
steps_in-at (y ∷ xs) (suc i) x l at = ap (λ n. take n (steps_in (y ∷ xs))) (let q : suc i + 1 ≡ suc (i + 1) = omega arith in q) ∙ ap (λ (l : List Step). y.now ∷ l) (steps_in-at xs i x (omega arith) at)

pub steps_in-length : (xs : List (Bor Step)) → length (steps_in xs) ≡ length xs
steps_in-length [] = refl
steps_in-length (x ∷ xs) = ap suc (steps_in-length xs)

pub steps_in-all : (xs : List (Bor Step)) (i : ℕ) → length xs ≤ i → take i (steps_in xs) ≡ steps_in xs
steps_in-all xs i l = take-all (steps_in xs) i (omega (arith, steps_in-length xs))

pub take-length : {X : Type 0} (xs : List X) (n : ℕ) → n ≤ length xs → length (take n xs) ≡ n
take-length xs zero l = refl
take-length [] (suc n) l = absurd (omega arith)
take-length (x ∷ xs) (suc n) l = ap suc (take-length xs n (omega arith))

fails : (n : ℕ) → 32 < n → nat_le n 32 ≡ false
fails n h = grind (arith, nat_tests)

holds : (n : ℕ) → n ≤ 32 → nat_le n 32 ≡ true
holds n h = grind (arith, nat_tests)

-- too many steps make no path
pub joined-long : (steps : List Step) → 32 < length steps → None ≡ joined [] steps
joined-long steps h = sym (ap (λ b. if b then Some steps else None) (fails (length steps) h))

pub joined-short : (path steps : List Step) → path ≡ steps → length path ≤ 32 → Some path ≡ joined [] steps
joined-short path steps e h = ap Some e ∙ sym (ap (λ b. if b then Some steps else None) (holds (length steps) (omega (arith, h, ap length e))))
