-- What slots hold after they were filled or emptied.
use Rattle.std.proofs.Common.{◌≡◌, ℕ, true, false, List, length, Option, None, Some, Result, Ok, Err, refl, ap, sym, ◌∙◌, subst, arith, if◌then◌else◌, inl, nat_eq}
use Rattle.std.specs.Prelude.{OnOk}
use Rattle.std.specs.Option.{option_map}
use Rattle.std.proofs.lemmas.Bool.Decides.{nat_tests}
use Rattle.sal_tx.specs.declared.tx.Tx.{Tx}
use Rattle.sal_script.specs.Play.{set_slot}
use Rattle.sal_script.specs.Tables.{Versions}
use Rattle.sal_client.specs.declared.client.ClientState.{ClientState}
use Rattle.sal_client.specs.Clients.{HasSchema, IsWithin, domain_of, open_of, opened}
use Rattle.sal_client.specs.Slots.{held}

-- what holds of all that slots hold, and of what is put in, holds of all that they hold then
pub each_filled : {X : Type 0} (P : X → Type 0) (h after : ℕ → Option X) (slot : ℕ) (x : X) → after ≡ set_slot slot (Some x) h → P x → ((k : ℕ) (y : X) → h k ≡ Some y → P y) → (k : ℕ) (y : X) → after k ≡ Some y → P y
each_filled {X} P h after slot x is new old k y e =
    let at : set_slot slot (Some x) h k ≡ Some y = ap (λ (f : ℕ → Option X). f k) (sym is) ∙ e in
    elim (nat_eq k slot) as (λ b. (if b then Some x else h k) ≡ Some y → P y) [
      | true ↦ λ same. let eq : x ≡ y = cc in subst P eq new
      | false ↦ λ other. old k y other
    ] at

pub each_emptied : {X : Type 0} (P : X → Type 0) (h after : ℕ → Option X) (slot : ℕ) → after ≡ set_slot slot None h → ((k : ℕ) (y : X) → h k ≡ Some y → P y) → (k : ℕ) (y : X) → after k ≡ Some y → P y
each_emptied {X} P h after slot is old k y e =
    let at : set_slot slot None h k ≡ Some y = ap (λ (f : ℕ → Option X). f k) (sym is) ∙ e in
    elim (nat_eq k slot) as (λ b. (if b then None else h k) ≡ Some y → P y) [
      | true ↦ λ none. absurd (let no : ⊥ = cc in no)
      | false ↦ λ other. old k y other
    ] at

-- a filled slot, seen through a function
pub seen-filled : {X Y : Type 0} (f : X → Y) (h after : ℕ → Option X) (slot : ℕ) (x : X) → after ≡ set_slot slot (Some x) h → (λ k. option_map f (after k)) ≡ set_slot slot (Some (f x)) (λ k. option_map f (h k))
seen-filled f h after slot x is = (λ i k. option_map f (is i k)) ∙ (λ i k. at k i)
  where
    at : (k : ℕ) → option_map f (set_slot slot (Some x) h k) ≡ set_slot slot (Some (f x)) (λ j. option_map f (h j)) k
    at k = elim (nat_eq k slot) as (λ b. option_map f (if b then Some x else h k) ≡ (if b then Some (f x) else option_map f (h k))) [ true ↦ refl | false ↦ refl ]

-- an emptied slot
pub seen-emptied : {X Y : Type 0} (f : X → Y) (h after : ℕ → Option X) (slot : ℕ) → after ≡ set_slot slot None h → (λ k. option_map f (after k)) ≡ set_slot slot None (λ k. option_map f (h k))
seen-emptied f h after slot is = (λ i k. option_map f (is i k)) ∙ (λ i k. at k i)
  where
    at : (k : ℕ) → option_map f (set_slot slot None h k) ≡ set_slot slot None (λ j. option_map f (h j)) k
    at k = elim (nat_eq k slot) as (λ b. option_map f (if b then None else h k) ≡ (if b then None else option_map f (h k))) [ true ↦ refl | false ↦ refl ]

-- what was taken out and something else put in
pub changed : {X : Type 0} (h emptied after : ℕ → Option X) (slot : ℕ) (x : X) → emptied ≡ set_slot slot None h → after ≡ set_slot slot (Some x) emptied → after ≡ set_slot slot (Some x) h
changed h emptied after slot x out in_ = in_ ∙ (λ i. set_slot slot (Some x) (out i)) ∙ (λ i k. at k i)
  where
    at : (k : ℕ) → set_slot slot (Some x) (set_slot slot None h) k ≡ set_slot slot (Some x) h k
    at k = elim (nat_eq k slot) as (λ b. (if b then Some x else (if b then None else h k)) ≡ (if b then Some x else h k)) [ true ↦ refl | false ↦ refl ]

-- what is put at its place
pub put_same : {X : Type 0} (h : ℕ → Option X) (slot : ℕ) (x : X) → h slot ≡ Some x → set_slot slot (Some x) h ≡ h
put_same h slot x here = λ i k. at k i
  where
    at : (k : ℕ) → set_slot slot (Some x) h k ≡ h k
    at k =
        elim (nat_eq k slot) as (λ b. nat_eq k slot ≡ b → (if b then Some x else h k) ≡ h k) [
          | true ↦ λ e. let same : k ≡ slot = grind (arith, nat_tests) in sym (ap h same ∙ here)
          | false ↦ λ e. refl
        ] refl

-- what was taken out and put back
pub put_back : {X : Type 0} (h emptied after : ℕ → Option X) (slot : ℕ) (x : X) → h slot ≡ Some x → emptied ≡ set_slot slot None h → after ≡ set_slot slot (Some x) emptied → after ≡ h
put_back h emptied after slot x here out in_ = changed h emptied after slot x out in_ ∙ put_same h slot x here

-- nothing taken out of an empty slot
pub took_nothing : {X : Type 0} (h emptied : ℕ → Option X) (slot : ℕ) → h slot ≡ None → emptied ≡ set_slot slot None h → emptied ≡ h
took_nothing {X} h emptied slot none out = out ∙ (λ i k. at k i)
  where
    at : (k : ℕ) → set_slot slot None h k ≡ h k
    at k =
        elim (nat_eq k slot) as (λ b. nat_eq k slot ≡ b → (if b then None else h k) ≡ h k) [
          | true ↦ λ e. let same : k ≡ slot = grind (arith, nat_tests) in sym (ap h same ∙ none)
          | false ↦ λ e. refl
        ] refl

-- what follows from an Ok
pub on_ok : {T E P Q : Type 0} (r : Result T E) → (P → Q) → OnOk r P → OnOk r Q
on_ok (Ok x) f p = f p
on_ok (Err e) f p = tt

-- the domain of a slot's transaction is one of those that are read, and an empty slot denotes the controller's own
pub opened_within : (tables : List Versions) (c : ClientState) (slot domain : ℕ) → domain ≡ domain_of (opened c slot) → HasSchema tables c → IsWithin (length tables) domain
opened_within tables c slot domain is has = subst (IsWithin (length tables)) (sym is) (by (held c.transactions slot) refl)
  where
    by : (o : Option Tx) → held c.transactions slot ≡ o → IsWithin (length tables) (domain_of (option_map open_of o))
    by None e = inl refl
    by (Some tx) e = (has slot tx e).within
