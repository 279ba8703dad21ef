-- Small lemmas that several crates need.
use Rattle.std.proofs.Common.{refl, ap, sym, ◌∙◌, cond, append_assoc, Err, Ok, Result, ◌≡◌, List, [], ◌∷◌, ◌++◌, inl, inr, subst, Some, length, get_or, suc, zero, ℕ, Bool, false, true, None, Option, arith, nat_lt, ◌≤◌, ◌<◌, ◌&&◌, ◌||◌}
use Rattle.sal_types.specs.Reading.{◌>>=◌, with_front}
use Rattle.std.specs.Prelude.{◌⊎◌, not, is_some, OnErr, T}
use Rattle.std.specs.List.{flat_map, slice_get, cons_option}
use Rattle.std.specs.Option.{option_to_list}
use Rattle.std.proofs.lemmas.Bool.Decides.{nat_tests}
use Rattle.std.specs.declared.cmp.Ordering.TheVariants.{Equal, Greater, Less}
use Rattle.std.specs.declared.cmp.Ordering.{Ordering}
use Rattle.std.specs.Ordering.{is_eq, match_ordering, nat_cmp, ordering_then, is_lt}
use Rattle.std.specs.BTreeMap.{insert_entry, is_at}
use Rattle.std.specs.Cmp.{Equal-is, nat_cmp_total, tied_itself}
use Rattle.std.specs.Map.{lookup, remove_entry}
use Rattle.sal_types.specs.declared.value.Step.{Step}
use Rattle.sal_types.specs.Order.{path_cmp-IsAntisymmetric, path_eq}

-- a step that went well, and what followed
pub bind_ok : {A B F P : Type 0} (r : Result A F) (f : A → Result B F) (y : B) → (r >>= f) ≡ Ok y → ((x : A) → r ≡ Ok x → f x ≡ Ok y → P) → P
bind_ok (Ok x) f y e next = next x refl e
bind_ok (Err fault) f y e next = absurd (no fault y e)
  where
    no : {B F : Type 0} (fault : F) (y : B) → ◌≡◌ {A = Result B F} (Err fault) (Ok y) → ⊥
    no fault y e = cc

abbrev pub In : {X : Type 0} → X → List X → Type 0
In x [] = ⊥
In x (y ∷ ys) = (x ≡ y) ⊎ In x ys

pub In-front : {X : Type 0} (x : X) (xs ys : List X) → In x xs → In x (xs ++ ys)
In-front x [] ys i = absurd i
In-front x (y ∷ xs) ys (inl e) = inl e
In-front x (y ∷ xs) ys (inr i) = inr (In-front x xs ys i)

pub In-back : {X : Type 0} (x : X) (xs ys : List X) → In x ys → In x (xs ++ ys)
In-back x [] ys i = i
In-back x (y ∷ xs) ys i = inr (In-back x xs ys i)

pub In-flat : {X Y : Type 0} (f : X → List Y) (xs : List X) (x : X) (y : Y) → In x xs → In y (f x) → In y (flat_map f xs)
In-flat f [] x y h i = absurd h
In-flat f (z ∷ xs) x y (inl e) i = In-front y (f z) (flat_map f xs) (subst (λ w. In y (f w)) e i)
In-flat f (z ∷ xs) x y (inr h) i = In-back y (f z) (flat_map f xs) (In-flat f xs x y h i)

pub slice_get-end : {X : Type 0} (xs : List X) (x : X) → slice_get (xs ++ x ∷ []) (length xs) ≡ Some x
slice_get-end [] x = refl
slice_get-end (y ∷ xs) x = slice_get-end xs x

pub got-at : {X : Type 0} (xs : List X) (k : ℕ) (x : X) → slice_get xs k ≡ Some x → x ≡ get_or xs k x
got-at [] k x e = cc
got-at (y ∷ xs) zero x e = cc
got-at (y ∷ xs) (suc k) x e = got-at xs k x e

pub not_false : (b : Bool) → not b ≡ false → b ≡ true
not_false true e = refl
not_false false e = cc

-- at most one more
pub listed : {X : Type 0} (xs : List X) (o : Option X) → xs ++ cons_option o [] ≡ xs ++ option_to_list o
listed xs None = refl
listed xs (Some x) = refl

pub within_limit : (depth : ℕ) → depth ≤ 250 → nat_lt 250 depth ≡ false
within_limit depth h = grind (arith, nat_tests)

pub past_limit : (depth : ℕ) → 250 < depth → nat_lt 250 depth ≡ true
past_limit depth h = grind (arith, nat_tests)

pub then_eq : (a b : Ordering) → is_eq (ordering_then a b) ≡ (is_eq a && is_eq b)
then_eq Less b = refl
then_eq Equal b = refl
then_eq Greater b = refl

pub and-true : (b : Bool) → (b && true) ≡ b
and-true true = refl
and-true false = refl

pub none-of : {X : Type 0} (o : Option X) → is_some o ≡ false → o ≡ None
none-of None e = refl
none-of (Some x) e = cc

pub on_err : {X E : Type 0} (P Q : Type 0) (r : Result X E) → (P → Q) → OnErr r P → OnErr r Q
on_err P Q (Ok x) f h = tt
on_err P Q (Err e) f h = f h

pub not_true : (b : Bool) → not b ≡ true → b ≡ false
not_true true e = cc
not_true false e = refl

pub same_path : (p q : List Step) → path_eq p q ≡ true → p ≡ q
same_path p q e = path_cmp-IsAntisymmetric p q ((Equal-is _).0 e)

pub or-false : (b : Bool) → (b || false) ≡ b
or-false true = refl
or-false false = refl

pub less : (o : Ordering) → T (is_lt o) → o ≡ Less
less Less h = refl
less Equal h = absurd h
less Greater h = absurd h

pub with_front-with_front : {A R F : Type 0} (a b : List A) (r : Result (List A × R) F) → with_front a (with_front b r) ≡ with_front (a ++ b) r
with_front-with_front a b (Ok x) = ap (λ t. Ok (t, x.1)) (sym (append_assoc a b x.0))
with_front-with_front a b (Err e) = refl

pub with_front-nil : {A R F : Type 0} (r : Result (List A × R) F) → with_front [] r ≡ r
with_front-nil (Ok x) = refl
with_front-nil (Err e) = refl

-- to insert at a new key and remove again gives the same entries
pub remove-insert : {V : Type 0} (k : ℕ) (v : V) (es : List (ℕ × V)) → lookup (is_at (nat_cmp k)) es ≡ None → remove_entry (is_at (nat_cmp k)) (insert_entry nat_cmp es k v) ≡ es
remove-insert {V} k v [] none = let e : List (ℕ × V) = (k, v) ∷ [] in ap (λ r. cond (is_eq r) [] e) (tied_itself nat_cmp_total k)
remove-insert k v (e ∷ es) none =
    elim (nat_cmp k e.0) as (λ r. nat_cmp k e.0 ≡ r → remove_entry (is_at (nat_cmp k)) (match_ordering r ((k, v) ∷ e ∷ es) ((e.0, v) ∷ es) (e ∷ insert_entry nat_cmp es k v)) ≡ e ∷ es) [
      | Less ↦ λ _. ap (λ r. cond (is_eq r) (e ∷ es) ((k, v) ∷ remove_entry (is_at (nat_cmp k)) (e ∷ es))) (tied_itself nat_cmp_total k)
      | Equal ↦ λ here. let found : lookup (is_at (nat_cmp k)) (e ∷ es) ≡ Some e.1 = ap (λ r. cond (is_eq r) (Some e.1) (lookup (is_at (nat_cmp k)) es)) here in cc
      | Greater ↦ λ past. let rest : lookup (is_at (nat_cmp k)) es ≡ None = sym (ap (λ r. cond (is_eq r) (Some e.1) (lookup (is_at (nat_cmp k)) es)) past) ∙ none in
          ap (λ r. cond (is_eq r) (insert_entry nat_cmp es k v) (e ∷ remove_entry (is_at (nat_cmp k)) (insert_entry nat_cmp es k v))) past ∙ ap (λ l. e ∷ l) (remove-insert k v es rest)
    ] refl
