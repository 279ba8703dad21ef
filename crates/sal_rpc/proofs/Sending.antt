-- The requests that were made, by their ids.
use Rattle.std.proofs.Common.{◌≡◌, ℕ, zero, suc, ◌-◌, ◌<◌, ◌≤◌, Bool, true, false, List, [], ◌∷◌, ◌++◌, Option, Some, None, length, map, set, get_or, refl, ap, sym, ◌∙◌, arith, if◌then◌else◌, nat_eq, ◌⊎◌, inl, inr}
use Rattle.std.specs.Prelude.{slice_get}
use Rattle.std.specs.Option.{option_map}
use Rattle.std.proofs.lemmas.Bool.Decides.{nat_tests}
use Rattle.std.proofs.lemmas.List.{length-map}
use Rattle.sal_rpc.specs.declared.routes.Sent.{Sent}
use Rattle.sal_rpc.specs.Routes.{Ends, ends_in, ends_of, sent_at, sent_with, written_at}
use Rattle.sal_rpc.specs.Routing.{Requested}

pub get-map : {X Y : Type 0} (f : X → Y) (xs : List X) (i : ℕ) → slice_get (map f xs) i ≡ option_map f (slice_get xs i)
get-map f [] i = refl
get-map f (x ∷ xs) zero = refl
get-map f (x ∷ xs) (suc i) = get-map f xs i

pub get-more : {X : Type 0} (xs : List X) (y : X) (i : ℕ) (s : X) → slice_get (xs ++ y ∷ []) i ≡ Some s → (slice_get xs i ≡ Some s) ⊎ ((i ≡ length xs) × (y ≡ s))
get-more [] y zero s e = inr (refl, let same : y ≡ s = cc in same)
get-more [] y (suc i) s e = cc
get-more (x ∷ xs) y zero s e = inl e
get-more (x ∷ xs) y (suc i) s e = elim (get-more xs y i s e) [ inl h ↦ inl h | inr h ↦ inr (ap suc h.0, h.1) ]

pub get-within : {X : Type 0} (xs : List X) (i : ℕ) (s : X) → slice_get xs i ≡ Some s → i < length xs
get-within [] i s e = cc
get-within (x ∷ xs) zero s e = omega arith
get-within (x ∷ xs) (suc i) s e = let h : i < length xs = get-within xs i s e in omega (arith, h)

pub written-get : (f : Sent → Sent) (xs : List Sent) (k i : ℕ) → slice_get (written_at f xs k) i ≡ (if nat_eq k i then option_map f (slice_get xs i) else slice_get xs i)
written-get f [] k i = elim (nat_eq k i) as (λ b. None ≡ (if b then option_map f None else None)) [ true ↦ refl | false ↦ refl ]
written-get f (x ∷ xs) zero zero = refl
written-get f (x ∷ xs) zero (suc i) = let no : nat_eq 0 (suc i) ≡ false = grind (arith, nat_tests) in sym (ap (λ b. if b then option_map f (slice_get xs i) else slice_get xs i) no)
written-get f (x ∷ xs) (suc k) zero = let no : nat_eq (suc k) 0 ≡ false = grind (arith, nat_tests) in sym (ap (λ b. if b then option_map f (Some x) else Some x) no)
written-get f (x ∷ xs) (suc k) (suc i) = let same : nat_eq k i ≡ nat_eq (suc k) (suc i) = grind (arith, nat_tests) in written-get f xs k i ∙ ap (λ b. if b then option_map f (slice_get xs i) else slice_get xs i) same

written-ends : (f : Sent → Sent) → ((s : Sent) → ends_in (f s) ≡ ends_in s) → (xs : List Sent) (k : ℕ) → map ends_in (written_at f xs k) ≡ map ends_in xs
written-ends f same [] k = refl
written-ends f same (x ∷ xs) zero = ap (λ (e : Ends). e ∷ map ends_in xs) (same x)
written-ends f same (x ∷ xs) (suc k) = ap (λ (l : List Ends). ends_in x ∷ l) (written-ends f same xs k)

pub sent-ends : (f : Sent → Sent) → ((s : Sent) → ends_in (f s) ≡ ends_in s) → (xs : List Sent) (id : ℕ) → map ends_in (sent_with f xs id) ≡ map ends_in xs
sent-ends f same xs zero = refl
sent-ends f same xs (suc k) = written-ends f same xs k

written-length : (f : Sent → Sent) (xs : List Sent) (k : ℕ) → length (written_at f xs k) ≡ length xs
written-length f [] k = refl
written-length f (x ∷ xs) zero = refl
written-length f (x ∷ xs) (suc k) = ap suc (written-length f xs k)

pub sent-length : (f : Sent → Sent) (xs : List Sent) (id : ℕ) → length (sent_with f xs id) ≡ length xs
sent-length f xs zero = refl
sent-length f xs (suc k) = written-length f xs k

-- as many are kept as were made
pub as-many : (xs : List Sent) (rs : List Requested) → map ends_in xs ≡ map ends_of rs → length xs ≡ length rs
as-many xs rs e = sym (length-map xs ends_in) ∙ ap length e ∙ length-map rs ends_of

-- ---- as code writes and reads it

written-past : (f : Sent → Sent) (xs : List Sent) (k : ℕ) → length xs ≤ k → written_at f xs k ≡ xs
written-past f [] k past = refl
written-past f (x ∷ xs) zero past = absurd (omega arith)
written-past f (x ∷ xs) (suc k) past = ap (λ l. x ∷ l) (written-past f xs k (omega (arith, past)))

pub sent-past : (f : Sent → Sent) (xs : List Sent) (id : ℕ) → (id ≡ 0) ⊎ (length xs < id) → sent_with f xs id ≡ xs
sent-past f xs zero why = refl
sent-past f xs (suc k) (inl e) = absurd (omega arith)
sent-past f xs (suc k) (inr past) = written-past f xs k (omega (arith, past))

written-set : (f : Sent → Sent) (xs : List Sent) (k : ℕ) (x : Sent) → k < length xs → x ≡ get_or xs k x → set xs k (f x) ≡ written_at f xs k
written-set f [] k x low e = absurd (omega arith)
written-set f (y ∷ xs) zero x low e = ap (λ z. f z ∷ xs) e
written-set f (y ∷ xs) (suc k) x low e = ap (λ l. y ∷ l) (written-set f xs k x (omega (arith, low)) e)

pub sent-set : (f : Sent → Sent) (xs : List Sent) (id : ℕ) (x : Sent) → 0 < id → id ≤ length xs → x ≡ get_or xs (id - 1) x → set xs (id - 1) (f x) ≡ sent_with f xs id
sent-set f xs zero x low high e = absurd (omega arith)
sent-set f xs (suc k) x low high e = let one : suc k - 1 ≡ k = omega arith in ap (λ i. set xs i (f x)) one ∙ written-set f xs k x (omega (arith, high)) (e ∙ ap (λ i. get_or xs i x) one)

get-past : (xs : List Sent) (k : ℕ) → length xs ≤ k → slice_get xs k ≡ None
get-past [] k past = refl
get-past (x ∷ xs) zero past = absurd (omega arith)
get-past (x ∷ xs) (suc k) past = get-past xs k (omega (arith, past))

pub sent_at-past : (xs : List Sent) (id : ℕ) → (id ≡ 0) ⊎ (length xs < id) → sent_at xs id ≡ None
sent_at-past xs zero why = refl
sent_at-past xs (suc k) (inl e) = absurd (omega arith)
sent_at-past xs (suc k) (inr past) = get-past xs k (omega (arith, past))

get-at : (xs : List Sent) (k : ℕ) (x : Sent) → k < length xs → x ≡ get_or xs k x → slice_get xs k ≡ Some x
get-at [] k x low e = absurd (omega arith)
get-at (y ∷ xs) zero x low e = ap Some (sym e)
get-at (y ∷ xs) (suc k) x low e = get-at xs k x (omega (arith, low)) e

pub sent_at-within : (xs : List Sent) (id : ℕ) (x : Sent) → 0 < id → id ≤ length xs → x ≡ get_or xs (id - 1) x → sent_at xs id ≡ Some x
sent_at-within xs zero x low high e = absurd (omega arith)
sent_at-within xs (suc k) x low high e = let one : suc k - 1 ≡ k = omega arith in get-at xs k x (omega (arith, high)) (e ∙ ap (λ i. get_or xs i x) one)

pub sent-get : (f : Sent → Sent) (xs : List Sent) (id i : ℕ) → 0 < id → slice_get (sent_with f xs id) i ≡ (if nat_eq id (suc i) then option_map f (slice_get xs i) else slice_get xs i)
sent-get f xs zero i low = absurd (omega arith)
sent-get f xs (suc k) i low = let same : nat_eq k i ≡ nat_eq (suc k) (suc i) = grind (arith, nat_tests) in written-get f xs k i ∙ ap (λ b. if b then option_map f (slice_get xs i) else slice_get xs i) same

-- what was there before it was written
pub written-from : (f : Sent → Sent) (b : Bool) (o : Option Sent) (s : Sent) → (if b then option_map f o else o) ≡ Some s → (x : Sent) × (o ≡ Some x) × ((if b then f x else x) ≡ s)
written-from f true None s e = cc
written-from f true (Some x) s e = (x, refl, let same : f x ≡ s = cc in same)
written-from f false None s e = cc
written-from f false (Some x) s e = (x, refl, let same : x ≡ s = cc in same)
