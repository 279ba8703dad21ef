-- What a list of slots holds after one of them was written.
use Rattle.std.proofs.Common.{◌≡◌, ℕ, zero, suc, ◌+◌, ◌<◌, ◌≤◌, Bool, true, false, List, [], ◌∷◌, ◌++◌, length, set, get_or, Option, None, Some, refl, ap, sym, ◌∙◌, arith, if◌then◌else◌, nat_eq}
use Rattle.std.proofs.lemmas.Bool.Decides.{nat_tests}
use Rattle.sal_client.specs.declared.slots.Slot.{Slot}
use Rattle.sal_script.specs.Play.{set_slot}
use Rattle.sal_client.specs.Slots.{held_in, place_in}

-- the slot at its place has its number, and holds what the slot holds
pub number-at : {X : Type 0} (list : List (Slot X)) (slot : ℕ) (d : Slot X) → place_in list slot < length list → (get_or list (place_in list slot) d).number ≡ slot
number-at [] slot d below = absurd (omega arith)
number-at {X} (s ∷ rest) slot d below =
    elim (nat_eq slot s.number) as (λ b. nat_eq slot s.number ≡ b → (if b then 0 else suc (place_in rest slot)) < suc (length rest) → (get_or (s ∷ rest) (if b then 0 else suc (place_in rest slot)) d).number ≡ slot) [
      | true ↦ λ e l. grind (arith, nat_tests)
      | false ↦ λ e l. number-at rest slot d (omega arith)
    ] refl below

pub held-at : {X : Type 0} (list : List (Slot X)) (slot : ℕ) (d : Slot X) → place_in list slot < length list → held_in list slot ≡ (get_or list (place_in list slot) d).value
held-at [] slot d below = absurd (omega arith)
held-at {X} (s ∷ rest) slot d below =
    elim (nat_eq slot s.number) as (λ b. (if b then 0 else suc (place_in rest slot)) < suc (length rest) → (if b then s.value else held_in rest slot) ≡ (get_or (s ∷ rest) (if b then 0 else suc (place_in rest slot)) d).value) [
      | true ↦ λ l. refl
      | false ↦ λ l. held-at rest slot d (omega arith)
    ] below

-- a slot without a place is empty
pub held-none : {X : Type 0} (list : List (Slot X)) (slot : ℕ) → length list ≤ place_in list slot → held_in list slot ≡ None
held-none [] slot past = refl
held-none {X} (s ∷ rest) slot past =
    elim (nat_eq slot s.number) as (λ b. suc (length rest) ≤ (if b then 0 else suc (place_in rest slot)) → (if b then s.value else held_in rest slot) ≡ None) [
      | true ↦ λ l. absurd (omega arith)
      | false ↦ λ l. held-none rest slot (omega arith)
    ] past

-- what an empty slot is emptied to
pub emptied-same : {X : Type 0} (h : ℕ → Option X) (slot : ℕ) → h slot ≡ None → h ≡ set_slot slot None h
emptied-same {X} h slot none = λ i k. at k i
  where
    at : (k : ℕ) → h k ≡ (if nat_eq k slot then None else h k)
    at k =
        elim (nat_eq k slot) as (λ b. nat_eq k slot ≡ b → h k ≡ (if b then None else h k)) [
          | true ↦ λ e. let same : k ≡ slot = grind (arith, nat_tests) in ap h same ∙ none
          | false ↦ λ e. refl
        ] refl

-- the value of another slot, and that of this one where it is asked for
behind : {X : Type 0} (s t : Option X) (after before : Option X) (here there : Bool) → (there ≡ true → here ≡ false) → after ≡ (if here then s else before) → (if there then t else after) ≡ (if here then s else (if there then t else before))
behind s t after before here true apart is = let other : here ≡ false = apart refl in rw other refl
behind s t after before here false apart is = is

apart : (slot k number : ℕ) → nat_eq slot number ≡ false → nat_eq k number ≡ true → nat_eq k slot ≡ false
apart slot k number other at = grind (arith, nat_tests)

-- a list with this at the place of its slot
pub held-set : {X : Type 0} (list : List (Slot X)) (s : Slot X) → place_in list s.number < length list → (k : ℕ) → held_in (set list (place_in list s.number) s) k ≡ (if nat_eq k s.number then s.value else held_in list k)
held-set [] s below k = absurd (omega arith)
held-set {X} (t ∷ rest) s below k =
    elim (nat_eq s.number t.number) as (λ b. nat_eq s.number t.number ≡ b → (if b then 0 else suc (place_in rest s.number)) < suc (length rest)
    → held_in (set (t ∷ rest) (if b then 0 else suc (place_in rest s.number)) s) k ≡ (if nat_eq k s.number then s.value else (if nat_eq k t.number then t.value else held_in rest k))) [
      | true ↦ λ e l. let same : s.number ≡ t.number = grind (arith, nat_tests) in over (nat_eq k s.number) (nat_eq k t.number) (ap (λ n. nat_eq k n) same)
      | false ↦ λ e l. behind s.value t.value (held_in (set rest (place_in rest s.number) s) k) (held_in rest k) (nat_eq k s.number) (nat_eq k t.number) (apart s.number k t.number e) (held-set rest s (omega arith) k)
    ] refl below
  where
    over : (a b : Bool) → a ≡ b → (if a then s.value else held_in rest k) ≡ (if a then s.value else (if b then t.value else held_in rest k))
    over true b e = refl
    over false false e = refl
    over false true e = cc

-- a list with this after it, where its slot had no place
pub held-push : {X : Type 0} (list : List (Slot X)) (s : Slot X) → length list ≤ place_in list s.number → (k : ℕ) → held_in (list ++ s ∷ []) k ≡ (if nat_eq k s.number then s.value else held_in list k)
held-push [] s past k = refl
held-push {X} (t ∷ rest) s past k =
    elim (nat_eq s.number t.number) as (λ b. nat_eq s.number t.number ≡ b → suc (length rest) ≤ (if b then 0 else suc (place_in rest s.number))
    → (if nat_eq k t.number then t.value else held_in (rest ++ s ∷ []) k) ≡ (if nat_eq k s.number then s.value else (if nat_eq k t.number then t.value else held_in rest k))) [
      | true ↦ λ e l. absurd (omega arith)
      | false ↦ λ e l. behind s.value t.value (held_in (rest ++ s ∷ []) k) (held_in rest k) (nat_eq k s.number) (nat_eq k t.number) (apart s.number k t.number e) (held-push rest s (omega arith) k)
    ] refl past
