-- The lists of chains, by the chains' ids.
use Rattle.std.proofs.Common.{◌≡◌, ℕ, zero, suc, ◌+◌, ◌-◌, ◌<◌, ◌≤◌, Bool, true, false, not, ◌&&◌, List, [], ◌∷◌, ◌++◌, length, drop, get_or, set, take, Option, None, Some, refl, ap, sym, ◌∙◌, arith, length-set, if◌then◌else◌, nat_eq, nat_le}
use Rattle.std.specs.Prelude.{slice_get, option_and_then, unwrap_or}
use Rattle.std.specs.Option.{option_or}
use Rattle.std.proofs.lemmas.Bool.Decides.{nat_tests}
use Rattle.std.proofs.Math.Seq.{map-set_same}
use Rattle.sal_rows.specs.Spans.{is_of_chain}
use Rattle.sal_hub.specs.Failures.{IsWithin, at_chain, cut_failures, failures_after, flag_in, noted_in, noted_with, up_to}
use Rattle.sal_hub.proofs.Listed.{slice_get_at}

pub option_or-none : {X : Type 0} (o : Option X) → option_or o None ≡ o
option_or-none None = refl
option_or-none (Some x) = refl

-- ---- one place is written

get_set : {X : Type 0} (xs : List X) (i : ℕ) (v : X) → i < length xs → slice_get (set xs i v) i ≡ Some v
get_set [] i v h = absurd (omega arith)
get_set (x ∷ xs) zero v h = refl
get_set (x ∷ xs) (suc i) v h = get_set xs i v (omega arith)

get_set_other : {X : Type 0} (xs : List X) (i : ℕ) (v : X) (k : ℕ) → (i ≡ k → ⊥) → slice_get (set xs i v) k ≡ slice_get xs k
get_set_other [] i v k h = refl
get_set_other (x ∷ xs) zero v zero h = absurd (h refl)
get_set_other (x ∷ xs) zero v (suc k) h = refl
get_set_other (x ∷ xs) (suc i) v zero h = refl
get_set_other (x ∷ xs) (suc i) v (suc k) h = get_set_other xs i v k (λ e. h (ap suc e))

less_one : (i : ℕ) → suc i - 1 ≡ i
less_one i = omega arith

pub chain_set : {X : Type 0} (xs : List X) (c : ℕ) (v : X) → 0 < c → c ≤ length xs → at_chain (set xs (c - 1) v) c ≡ Some v
chain_set xs zero v low high = absurd (omega (arith, low))
chain_set xs (suc i) v low high = ap (λ j. slice_get (set xs j v) i) (less_one i) ∙ get_set xs i v (omega (arith, high))

pub chain_set_other : {X : Type 0} (xs : List X) (c : ℕ) (v : X) (k : ℕ) → 0 < c → (c ≡ k → ⊥) → at_chain (set xs (c - 1) v) k ≡ at_chain xs k
chain_set_other xs zero v k low differs = absurd (omega (arith, low))
chain_set_other xs (suc i) v zero low differs = refl
chain_set_other xs (suc i) v (suc k) low differs = ap (λ j. slice_get (set xs j v) k) (less_one i) ∙ get_set_other xs i v k (λ e. differs (ap suc e))

differ : (c k : ℕ) → nat_eq k c ≡ false → c ≡ k → ⊥
differ c k unlike same = let like : nat_eq k c ≡ true = grind (arith, nat_tests) in cc

alike : (c k : ℕ) → nat_eq k c ≡ true → c ≡ k
alike c k like = grind (arith, nat_tests)

pub at_chain_set : {X : Type 0} (xs : List X) (c : ℕ) (v : X) (k : ℕ) → 0 < c → c ≤ length xs → at_chain (set xs (c - 1) v) k ≡ (if nat_eq k c then Some v else at_chain xs k)
at_chain_set xs c v k low high =
    elim (nat_eq k c) as (λ b. nat_eq k c ≡ b → at_chain (set xs (c - 1) v) k ≡ (if b then Some v else at_chain xs k)) [
      | true ↦ λ yes. ap (at_chain (set xs (c - 1) v)) (sym (alike c k yes)) ∙ chain_set xs c v low high
      | false ↦ λ no. chain_set_other xs c v k low (differ c k no)
    ] refl

-- a number that is kept for a chain, if any
pub noted_in-with : (xs : List (Option ℕ)) (chain : Option ℕ) (n k : ℕ) → IsWithin (length xs) chain → noted_in (noted_with xs chain n) k ≡ option_or (if is_of_chain (Some k) chain then Some n else None) (noted_in xs k)
noted_in-with xs None n k w = refl
noted_in-with xs (Some c) n k w =
    ap (option_and_then (λ (x : Option ℕ). x)) (at_chain_set xs c (Some n) k (w c refl).0 (w c refl).1)
    ∙ elim (nat_eq k c) as (λ b. option_and_then (λ (x : Option ℕ). x) (if b then Some (Some n) else at_chain xs k) ≡ option_or (if b then Some n else None) (noted_in xs k)) [ true ↦ refl | false ↦ refl ]

pub length-with : (xs : List (Option ℕ)) (chain : Option ℕ) (n : ℕ) → length (noted_with xs chain n) ≡ length xs
length-with xs None n = refl
length-with xs (Some c) n = length-set xs (c - 1) (Some n)

-- ---- one more at the end

push_none : (xs : List (Option ℕ)) (i : ℕ) → option_and_then (λ (x : Option ℕ). x) (slice_get (xs ++ None ∷ []) i) ≡ option_and_then (λ (x : Option ℕ). x) (slice_get xs i)
push_none [] zero = refl
push_none [] (suc i) = refl
push_none (x ∷ xs) zero = refl
push_none (x ∷ xs) (suc i) = push_none xs i

pub noted_in-push : (xs : List (Option ℕ)) (k : ℕ) → noted_in (xs ++ None ∷ []) k ≡ noted_in xs k
noted_in-push xs zero = refl
noted_in-push xs (suc i) = push_none xs i

push_false : (xs : List Bool) (i : ℕ) → unwrap_or (slice_get (xs ++ false ∷ []) i) false ≡ unwrap_or (slice_get xs i) false
push_false [] zero = refl
push_false [] (suc i) = refl
push_false (x ∷ xs) zero = refl
push_false (x ∷ xs) (suc i) = push_false xs i

pub flag_in-push : (xs : List Bool) (k : ℕ) → flag_in (xs ++ false ∷ []) k ≡ flag_in xs k
flag_in-push xs zero = refl
flag_in-push xs (suc i) = push_false xs i

-- ---- elements that the code reads

pub at_chain_at : {X : Type 0} (xs : List X) (c : ℕ) (x : X) → 0 < c → c ≤ length xs → x ≡ get_or xs (c - 1) x → at_chain xs c ≡ Some x
at_chain_at xs zero x low high is = absurd (omega (arith, low))
at_chain_at xs (suc i) x low high is = slice_get_at xs i x (omega (arith, high)) (is ∙ ap (λ j. get_or xs j x) (less_one i))

pub noted_at : (xs : List (Option ℕ)) (c : ℕ) (x : Option ℕ) → 0 < c → c ≤ length xs → x ≡ get_or xs (c - 1) x → noted_in xs c ≡ x
noted_at xs c x low high is = ap (option_and_then (λ (y : Option ℕ). y)) (at_chain_at xs c x low high is)

pub flag_at : (xs : List Bool) (c : ℕ) (x : Bool) → 0 < c → c ≤ length xs → x ≡ get_or xs (c - 1) x → flag_in xs c ≡ x
flag_at xs c x low high is = ap (λ o. unwrap_or o false) (at_chain_at xs c x low high is)

flag_or_at : (xs : List Bool) (i : ℕ) → get_or xs i false ≡ unwrap_or (slice_get xs i) false
flag_or_at [] i = refl
flag_or_at (x ∷ xs) zero = refl
flag_or_at (x ∷ xs) (suc i) = flag_or_at xs i

pub flag_or : (xs : List Bool) (c : ℕ) → 0 < c → get_or xs (c - 1) false ≡ flag_in xs c
flag_or xs zero low = absurd (omega (arith, low))
flag_or xs (suc i) low = ap (λ j. get_or xs j false) (less_one i) ∙ flag_or_at xs i

-- an index with a number is within the list
some_within : (xs : List (Option ℕ)) (i n : ℕ) → option_and_then (λ (x : Option ℕ). x) (slice_get xs i) ≡ Some n → i < length xs
some_within [] i n e = cc
some_within (x ∷ xs) zero n e = omega arith
some_within (x ∷ xs) (suc i) n e = omega (arith, some_within xs i n e)

pub noted_within : (xs : List (Option ℕ)) (c n : ℕ) → noted_in xs c ≡ Some n → (0 < c) × (c ≤ length xs)
noted_within xs zero n e = cc
noted_within xs (suc i) n e = (omega arith, omega (arith, some_within xs i n e))

-- ---- failures

pub length-after : (xs : List (Option ℕ)) (chain : Option ℕ) (n : ℕ) (done : Bool) → length (failures_after xs chain n done) ≡ length xs
length-after xs None n done = refl
length-after xs (Some c) n true = refl
length-after xs (Some c) n false = length-set xs (c - 1) (option_or (noted_in xs c) (Some n))

pub noted_in-after : (xs : List (Option ℕ)) (chain : Option ℕ) (n : ℕ) (done : Bool) (k : ℕ) → IsWithin (length xs) chain → noted_in (failures_after xs chain n done) k ≡ option_or (noted_in xs k) (if is_of_chain (Some k) chain && not done then Some n else None)
noted_in-after xs None n done k w = sym (option_or-none (noted_in xs k))
noted_in-after xs (Some c) n true k w =
    elim (nat_eq k c) as (λ b. noted_in xs k ≡ option_or (noted_in xs k) (if b && false then Some n else None)) [ true ↦ sym (option_or-none (noted_in xs k)) | false ↦ sym (option_or-none (noted_in xs k)) ]
noted_in-after xs (Some c) n false k w =
    ap (option_and_then (λ (x : Option ℕ). x)) (at_chain_set xs c (option_or (noted_in xs c) (Some n)) k (w c refl).0 (w c refl).1)
    ∙ elim (nat_eq k c) as (λ b. nat_eq k c ≡ b → option_and_then (λ (x : Option ℕ). x) (if b then Some (option_or (noted_in xs c) (Some n)) else at_chain xs k) ≡ option_or (noted_in xs k) (if b && true then Some n else None)) [
      | true ↦ λ yes. ap (λ j. option_or (noted_in xs j) (Some n)) (alike c k yes)
      | false ↦ λ no. sym (option_or-none (noted_in xs k))
    ] refl

-- a list without numbers beyond the count stays
pub cut_fixed : (count : ℕ) (xs : List (Option ℕ)) → ((k : ℕ) → up_to count (noted_in xs k) ≡ noted_in xs k) → cut_failures count xs ≡ xs
cut_fixed count [] h = refl
cut_fixed count (x ∷ xs) h = (λ i. h (suc zero) i ∷ cut_fixed count xs rest i)
  where
    rest : (k : ℕ) → up_to count (noted_in xs k) ≡ noted_in xs k
    rest zero = refl
    rest (suc i) = h (suc (suc i))

late : (count : ℕ) (o : Option ℕ) → up_to count (option_or o (Some (count + 1))) ≡ up_to count o
late count None = let no : nat_le (count + 1) count ≡ false = grind (arith, nat_tests) in rw no refl
late count (Some n) = refl

pub cut_after : (count : ℕ) (xs : List (Option ℕ)) (chain : Option ℕ) (done : Bool) → IsWithin (length xs) chain → cut_failures count (failures_after xs chain (count + 1) done) ≡ cut_failures count xs
cut_after count xs None done w = refl
cut_after count xs (Some c) true w = refl
cut_after count xs (Some c) false w =
    map-set_same (up_to count) xs (c - 1) (option_or (noted_in xs c) (Some (count + 1))) None (late count (noted_in xs c) ∙ ap (up_to count) (here xs c (w c refl).0 (w c refl).1))
  where
    here : (ys : List (Option ℕ)) (k : ℕ) → 0 < k → k ≤ length ys → noted_in ys k ≡ get_or ys (k - 1) None
    here ys k low high = noted_at ys k (get_or ys (k - 1) None) low high (whatever ys (k - 1) (omega (arith, low, high)))
      where
        whatever : (zs : List (Option ℕ)) (j : ℕ) → j < length zs → get_or zs j None ≡ get_or zs j (get_or zs j None)
        whatever [] j h = absurd (omega (arith, h))
        whatever (z ∷ zs) zero h = refl
        whatever (z ∷ zs) (suc j) h = whatever zs j (omega (arith, h))

up_to_then : (m n : ℕ) (o : Option ℕ) → m ≤ n → up_to m (up_to n o) ≡ up_to m o
up_to_then m n None h = refl
up_to_then m n (Some r) h =
    elim (nat_le r n) as (λ b. nat_le r n ≡ b → up_to m (if b then Some r else None) ≡ (if nat_le r m then Some r else None)) [
      | true ↦ λ e. refl
      | false ↦ λ e. let no : nat_le r m ≡ false = grind (arith, nat_tests) in rw no refl
    ] refl

pub cut_twice : (m n : ℕ) (xs : List (Option ℕ)) → m ≤ n → cut_failures m (cut_failures n xs) ≡ cut_failures m xs
cut_twice m n [] h = refl
cut_twice m n (x ∷ xs) h = (λ i. up_to_then m n x h i ∷ cut_twice m n xs h i)

-- one after another
take_none : (ys : List (Option ℕ)) → take 0 ys ≡ []
take_none [] = refl
take_none (y ∷ ys) = refl

drop_none : (ys : List (Option ℕ)) → drop 0 ys ≡ ys
drop_none [] = refl
drop_none (y ∷ ys) = refl

cut_to : (count : ℕ) (ys : List (Option ℕ)) (i : ℕ) (d : Option ℕ) → i < length ys
    → set (cut_failures count (take i ys) ++ drop i ys) i (up_to count (get_or (cut_failures count (take i ys) ++ drop i ys) i d)) ≡ cut_failures count (take (suc i) ys) ++ drop (suc i) ys
cut_to count [] i d h = absurd (omega (arith, h))
cut_to count (y ∷ ys) zero d h = (λ i. up_to count y ∷ (sym (ap (λ xs. cut_failures count xs ++ ys) (take_none ys)) ∙ ap (λ xs. cut_failures count (take 0 ys) ++ xs) (sym (drop_none ys))) i)
cut_to count (y ∷ ys) (suc i) d h = (λ j. up_to count y ∷ cut_to count ys i d (omega (arith, h)) j)

pub cut_one_more : (count : ℕ) (ys xs : List (Option ℕ)) (i : ℕ) (x d : Option ℕ) → i < length ys → xs ≡ cut_failures count (take i ys) ++ drop i ys → x ≡ up_to count (get_or xs i d) → set xs i x ≡ cut_failures count (take (i + 1) ys) ++ drop (i + 1) ys
cut_one_more count ys xs i x d h is at =
    let one : suc i ≡ i + 1 = omega arith in
    (λ j. set (is j) i ((at ∙ ap (λ zs. up_to count (get_or zs i d)) is) j)) ∙ cut_to count ys i d h ∙ ap (λ k. cut_failures count (take k ys) ++ drop k ys) one
