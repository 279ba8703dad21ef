-- The changes that a client sees, by their numbers.
use Rattle.std.proofs.Common.{◌≡◌, ℕ, zero, suc, ◌+◌, ◌-◌, ◌<◌, ◌≤◌, Bool, true, false, ◌&&◌, ◌||◌, T, List, [], ◌∷◌, ◌++◌, Option, Some, None, Less, length, take, drop, get_or, refl, ap, sym, subst, ◌∙◌, cond, append_assoc, append-nil, length-append, arith, fold, if◌then◌else◌, nat_eq, nat_le, slice_get, is_eq, is_lt}
use Rattle.std.specs.Prelude.{is_some}
use Rattle.std.specs.BTreeMap.{is_at}
use Rattle.std.specs.Cmp.{nat_cmp_total}
use Rattle.std.specs.FinMap.{nat_cmp-IsAntisymmetric}
use Rattle.std.specs.FinMap.Entries.{below_all, find, is_sorted, same_entries}
use Rattle.std.specs.List.{AllByRecursion, list_any}
use Rattle.std.specs.List.Sorted.{IsNonDecreasing, IsStrictlySortedBy}
use Rattle.std.specs.Map.{keys_of}
use Rattle.std.specs.Ordering.{nat_cmp}
use Rattle.std.proofs.Math.ListN.{drop_of_length-le}
use Rattle.std.proofs.lemmas.Bool.Decides.{nat_tests}
use Rattle.std.proofs.lemmas.List.{length-take-le, take-append-drop}
use Rattle.std.proofs.lemmas.Map.Keys.{sorted_head, sorted_tail}
use Rattle.sal_owner.specs.declared.entity.OwnerChange.{OwnerChange}
use Rattle.sal_owner.specs.declared.shift.Shift.{Shift}
use Rattle.sal_owner.specs.Kept.{is_since, start_at, text_cmp, told, told_from}
use Rattle.sal_owner.specs.Ownership.{Text, same_text}
use Rattle.sal_owner.specs.Shifts.{IsNumbered, due_by, has_number, is_due, numbers_at, numbers_of, picked, told_at, told_over, told_some}
use Rattle.sal_owner.proofs.Maps.{same, test-text}
use Rattle.sal_owner.proofs.OwnedKinds.{both, is_lt-Less}

-- ---- bits

and-no : (b : Bool) → (b && false) ≡ false
and-no true = refl
and-no false = refl

or-no : (b : Bool) → (b || false) ≡ b
or-no true = refl
or-no false = refl

-- ---- a list of numbers from a place on

none-below : (xs : List ℕ) (n from : ℕ) → ((k d : ℕ) → k < length xs → from ≤ get_or xs k d) → nat_le from n ≡ false → list_any (nat_eq n) xs ≡ false
none-below [] n from high e = refl
none-below (x ∷ xs) n from high e =
    let h : from ≤ x = high 0 x (omega arith) in
    let apart : nat_eq n x ≡ false = grind (arith, nat_tests, h, e) in
    ap (λ b. b || list_any (nat_eq n) xs) apart ∙ none-below xs n from (λ k d w. high (suc k) d (omega (arith, w))) e

pub any-from : (xs : List ℕ) (p n from : ℕ) → ((k d : ℕ) → k < p → get_or xs k d < from) → ((k d : ℕ) → p ≤ k → k < length xs → from ≤ get_or xs k d) → p ≤ length xs
    → list_any (nat_eq n) (drop p xs) ≡ (nat_le from n && list_any (nat_eq n) xs)
any-from [] zero n from low high h = sym (and-no (nat_le from n))
any-from [] (suc p) n from low high h = sym (and-no (nat_le from n))
any-from (x ∷ xs) zero n from low high h = by (nat_le from n) refl
  where
    by : (b : Bool) → nat_le from n ≡ b → list_any (nat_eq n) (x ∷ xs) ≡ (b && list_any (nat_eq n) (x ∷ xs))
    by true e = refl
    by false e = none-below (x ∷ xs) n from (λ k d w. high k d (omega arith) w) e
any-from (x ∷ xs) (suc p) n from low high h =
    any-from xs p n from (λ k d w. low (suc k) d (omega (arith, w))) (λ k d v w. high (suc k) d (omega (arith, v)) (omega (arith, w))) (omega (arith, h))
    ∙ by (nat_le from n) refl
  where
    by : (b : Bool) → nat_le from n ≡ b → (b && list_any (nat_eq n) xs) ≡ (b && (nat_eq n x || list_any (nat_eq n) xs))
    by true e =
        let l : x < from = low 0 x (omega arith) in
        let apart : nat_eq n x ≡ false = grind (arith, nat_tests, l, e) in
        sym (ap (λ b. b || list_any (nat_eq n) xs) apart)
    by false e = refl

pub fold-any : (n : ℕ) (xs : List ℕ) (b : Bool) → fold (λ b x. nat_eq x n || b) b xs ≡ (b || list_any (nat_eq n) xs)
fold-any n [] b = sym (or-no b)
fold-any n (x ∷ xs) b = fold-any n xs (nat_eq x n || b) ∙ ap (λ t. (t || b) || list_any (nat_eq n) xs) (turned x n) ∙ moved (nat_eq n x) b (list_any (nat_eq n) xs)
  where
    turned : (x n : ℕ) → nat_eq x n ≡ nat_eq n x
    turned x n = grind (arith, nat_tests)

    moved : (a b c : Bool) → ((a || b) || c) ≡ (b || (a || c))
    moved true true c = refl
    moved true false c = refl
    moved false true c = refl
    moved false false c = refl

-- ---- the numbers that pass a test

module _ (p : ℕ → Shift → Bool) where
  pub picked-more : (i n : ℕ) (shifts : List Shift) (s : Shift) → n ≡ i + length shifts → picked p i (shifts ++ s ∷ []) ≡ picked p i shifts ++ (if p n s then n ∷ [] else [])
  picked-more i n [] s at =
      let here : i ≡ n = omega (arith, at) in
      append-nil (if p i s then i ∷ [] else []) ∙ ap (λ k. if p k s then k ∷ [] else []) here
  picked-more i n (t ∷ shifts) s at =
      ap (λ l. (if p i t then i ∷ [] else []) ++ l) (picked-more (i + 1) n shifts s (omega (arith, at))) ∙ sym (append_assoc (if p i t then i ∷ [] else []) (picked p (i + 1) shifts) (if p n s then n ∷ [] else []))

  above : (i : ℕ) (shifts : List Shift) (j d : ℕ) → j < length (picked p i shifts) → i ≤ get_or (picked p i shifts) j d
  above i [] j d h = absurd (omega (arith, h))
  above i (s ∷ shifts) j d h =
      elim (p i s) as (λ b. j < length ((if b then i ∷ [] else []) ++ picked p (i + 1) shifts) → i ≤ get_or ((if b then i ∷ [] else []) ++ picked p (i + 1) shifts) j d) [
        | true ↦ λ w. first (λ k v. above (i + 1) shifts k d v) j w
        | false ↦ λ w. let h : i + 1 ≤ get_or (picked p (i + 1) shifts) j d = above (i + 1) shifts j d w in omega (arith, h)
      ] h
    where
      first : ((k : ℕ) → k < length (picked p (i + 1) shifts) → i + 1 ≤ get_or (picked p (i + 1) shifts) k d) → (j : ℕ) → j < length (i ∷ picked p (i + 1) shifts) → i ≤ get_or (i ∷ picked p (i + 1) shifts) j d
      first later zero w = omega arith
      first later (suc j) w = let h : i + 1 ≤ get_or (picked p (i + 1) shifts) j d = later j (omega (arith, w)) in omega (arith, h)

  rise-cons : (i : ℕ) (xs : List ℕ) → ((j d : ℕ) → j < length xs → i ≤ get_or xs j d) → IsNonDecreasing xs → IsNonDecreasing (i ∷ xs)
  rise-cons i xs high rise zero zero d h w = omega arith
  rise-cons i xs high rise zero (suc b) d h w = high b d (omega (arith, w))
  rise-cons i xs high rise (suc a) zero d h w = absurd (omega (arith, h))
  rise-cons i xs high rise (suc a) (suc b) d h w = rise a b d (omega (arith, h)) (omega (arith, w))

  pub picked-rise : (i : ℕ) (shifts : List Shift) → IsNonDecreasing (picked p i shifts)
  picked-rise i [] = λ a b d h w. absurd (omega (arith, w))
  picked-rise i (s ∷ shifts) =
      elim (p i s) as (λ b. IsNonDecreasing ((if b then i ∷ [] else []) ++ picked p (i + 1) shifts)) [
        | true ↦ rise-cons i (picked p (i + 1) shifts) (λ j d w. let h : i + 1 ≤ get_or (picked p (i + 1) shifts) j d = above (i + 1) shifts j d w in omega (arith, h)) (picked-rise (i + 1) shifts)
        | false ↦ picked-rise (i + 1) shifts
      ]

  -- whether a change passes the test
  abbrev passes : ℕ → Option Shift → Bool
  passes n None = false
  passes n (Some s) = p n s

  early : (i n : ℕ) (shifts : List Shift) → n < i → list_any (nat_eq n) (picked p i shifts) ≡ false
  early i n [] h = refl
  early i n (s ∷ shifts) h =
      elim (p i s) as (λ b. list_any (nat_eq n) ((if b then i ∷ [] else []) ++ picked p (i + 1) shifts) ≡ false) [
        | true ↦ (let apart : nat_eq n i ≡ false = grind (arith, nat_tests, h) in ap (λ b. b || list_any (nat_eq n) (picked p (i + 1) shifts)) apart ∙ early (i + 1) n shifts (omega (arith, h)))
        | false ↦ early (i + 1) n shifts (omega (arith, h))
      ]

  pub picked-at : (i n m : ℕ) (shifts : List Shift) → n ≡ i + m → list_any (nat_eq n) (picked p i shifts) ≡ passes n (slice_get shifts m)
  picked-at i n m [] at = refl
  picked-at i n zero (s ∷ shifts) at =
      let here : n ≡ i = omega (arith, at) in
      ap (λ j. list_any (nat_eq n) ((if p j s then j ∷ [] else []) ++ picked p (i + 1) shifts)) (sym here)
      ∙ elim (p n s) as (λ b. list_any (nat_eq n) ((if b then n ∷ [] else []) ++ picked p (i + 1) shifts) ≡ b) [
        | true ↦ (let own : nat_eq n n ≡ true = grind (arith, nat_tests) in ap (λ b. b || list_any (nat_eq n) (picked p (i + 1) shifts)) own)
        | false ↦ early (i + 1) n shifts (omega (arith, at))
      ]
  picked-at i n (suc m) (s ∷ shifts) at =
      elim (p i s) as (λ b. list_any (nat_eq n) ((if b then i ∷ [] else []) ++ picked p (i + 1) shifts) ≡ passes n (slice_get shifts m)) [
        | true ↦ (let apart : nat_eq n i ≡ false = grind (arith, nat_tests, at) in ap (λ b. b || list_any (nat_eq n) (picked p (i + 1) shifts)) apart ∙ picked-at (i + 1) n m shifts (omega (arith, at)))
        | false ↦ picked-at (i + 1) n m shifts (omega (arith, at))
      ]

  get-drop : (from m : ℕ) (shifts : List Shift) → slice_get (drop from shifts) m ≡ slice_get shifts (from + m)
  get-drop zero m [] = refl
  get-drop zero m (s ∷ shifts) = let e : m ≡ 0 + m = omega arith in ap (λ k. slice_get (s ∷ shifts) k) e
  get-drop (suc from) m [] = refl
  get-drop (suc from) m (s ∷ shifts) = let e : suc (from + m) ≡ suc from + m = omega arith in get-drop from m shifts ∙ ap (λ k. slice_get (s ∷ shifts) k) e

  pub picked-from : (from n : ℕ) (shifts : List Shift) → list_any (nat_eq n) (picked p from (drop from shifts)) ≡ (nat_le from n && passes n (slice_get shifts n))
  picked-from from n shifts = by (nat_le from n) refl
    where
      by : (b : Bool) → nat_le from n ≡ b → list_any (nat_eq n) (picked p from (drop from shifts)) ≡ (b && passes n (slice_get shifts n))
      by true e =
          let le : from ≤ n = grind (arith, nat_tests, e) in
          let at : n ≡ from + (n - from) = omega (arith, le) in
          picked-at from n (n - from) (drop from shifts) at ∙ ap (passes n) (get-drop from (n - from) shifts) ∙ ap (λ k. passes n (slice_get shifts k)) (sym at)
      by false e = let lt : n < from = grind (arith, nat_tests, e) in early from n (drop from shifts) lt

-- ---- the shifts of each kind

pub numbered-more : (shifts : List Shift) (s : Shift) (n : ℕ) (numbers later : List (Text × List ℕ)) → n ≡ length shifts → IsNumbered shifts numbers
    → ((k : Text) → numbers_at later k ≡ (if is_at (text_cmp s.entity.kind) k then numbers_at numbers s.entity.kind ++ n ∷ [] else numbers_at numbers k)) → IsNumbered (shifts ++ s ∷ []) later
numbered-more shifts s n numbers later at was written k =
    written k
    ∙ elim (is_at (text_cmp s.entity.kind) k) as (λ b. is_at (text_cmp s.entity.kind) k ≡ b → (if b then numbers_at numbers s.entity.kind ++ n ∷ [] else numbers_at numbers k) ≡ numbers_of k shifts ++ (if b then n ∷ [] else [])) [
      | true ↦ λ e. ap (λ q. numbers_at numbers q ++ n ∷ []) (same s.entity.kind k e) ∙ ap (λ l. l ++ n ∷ []) (was k)
      | false ↦ λ e. was k ∙ sym (append-nil (numbers_of k shifts))
    ] refl
    ∙ (λ i. numbers_of k shifts ++ (if test-text s.entity.kind k i then n ∷ [] else []))
    ∙ sym (picked-more (λ i t. same_text t.entity.kind k) 0 n shifts s (omega (arith, at)))

pub numbers-rise : (shifts : List Shift) (numbers : List (Text × List ℕ)) → IsNumbered shifts numbers → (k : Text) → IsNonDecreasing (numbers_at numbers k)
numbers-rise shifts numbers is k = subst (λ xs. IsNonDecreasing xs) (sym (is k)) (picked-rise (λ i t. same_text t.entity.kind k) 0 shifts)

-- ---- the numbers that are due

abbrev due_test : List (Text × ℕ) → ℕ → Shift → Bool
due_test kinds n s = is_since n (start_at kinds s.entity.kind)

unlisted : (k : Text) (es : List (Text × ℕ)) → AllByRecursion (λ y. text_cmp k y ≡ Less) (keys_of es) → start_at es k ≡ None
unlisted k [] h = refl
unlisted k (e ∷ es) h = ap (λ r. cond (is_eq r) (Some e.1) (start_at es k)) h.0 ∙ unlisted k es h.1

module _ (n : ℕ) (l : Bool) (k : Text) where
  found : (b t : Bool) → ((b || (t && (l && true))) || (l && false)) ≡ (b || (l && t))
  found = by l
    where
      by : (l b t : Bool) → ((b || (t && (l && true))) || (l && false)) ≡ (b || (l && t))
      by true true t = refl
      by true false true = refl
      by true false false = refl
      by false true t = refl
      by false false true = refl
      by false false false = refl

  missed : (b t r : Bool) → ((b || (t && (l && false))) || (l && r)) ≡ (b || (l && r))
  missed = by l
    where
      by : (l b t r : Bool) → ((b || (t && (l && false))) || (l && r)) ≡ (b || (l && r))
      by l true t r = refl
      by true false true r = refl
      by true false false r = refl
      by false false true r = refl
      by false false false r = refl

  over-kinds : (kinds : List (Text × ℕ)) → IsStrictlySortedBy text_cmp (keys_of kinds) → (b : Bool) → fold (λ b (kind : Text × ℕ). b || (nat_le kind.1 n && (l && same_text k kind.0))) b kinds ≡ (b || (l && is_since n (start_at kinds k)))
  over-kinds [] sorted b = sym (ap (λ t. b || t) (and-no l) ∙ or-no b)
  over-kinds (e ∷ es) sorted b =
      over-kinds es (sorted_tail text_cmp e.0 (keys_of es) sorted) (b || (nat_le e.1 n && (l && same_text k e.0)))
      ∙ ap (λ t. (b || (nat_le e.1 n && (l && t))) || (l && is_since n (start_at es k))) (sym (test-text k e.0))
      ∙ elim (is_at (text_cmp k) e.0) as (λ t. is_at (text_cmp k) e.0 ≡ t → ((b || (nat_le e.1 n && (l && t))) || (l && is_since n (start_at es k))) ≡ (b || (l && is_since n (cond t (Some e.1) (start_at es k))))) [
        | true ↦ λ is.
            let none : start_at es k ≡ None = ap (start_at es) (same k e.0 is) ∙ unlisted e.0 es (sorted_head text_cmp e.0 (keys_of es) sorted) in
            ap (λ o. (b || (nat_le e.1 n && (l && true))) || (l && is_since n o)) none ∙ found b (nat_le e.1 n)
        | false ↦ λ is. missed b (nat_le e.1 n) (is_since n (start_at es k))
      ] refl

module _ (shifts : List Shift) (numbers : List (Text × List ℕ)) (is : IsNumbered shifts numbers) (kinds : List (Text × ℕ)) (from : ℕ) where
  abbrev of_kind : Option Shift → Text → Bool
  of_kind None k = false
  of_kind (Some s) k = same_text s.entity.kind k

  noted-at : (n : ℕ) (k : Text) → list_any (nat_eq n) (numbers_at numbers k) ≡ of_kind (slice_get shifts n) k
  noted-at n k = ap (list_any (nat_eq n)) (is k) ∙ picked-at (λ i t. same_text t.entity.kind k) 0 n n shifts (omega arith) ∙ by (slice_get shifts n)
    where
      by : (o : Option Shift) → passes (λ i t. same_text t.entity.kind k) n o ≡ of_kind o k
      by None = refl
      by (Some s) = refl

  same-tests : (n : ℕ) (o : Option Shift) (es : List (Text × ℕ)) (b : Bool) → slice_get shifts n ≡ o → due_by numbers from n es b ≡ fold (λ b (kind : Text × ℕ). b || (nat_le kind.1 n && (nat_le from n && of_kind o kind.0))) b es
  same-tests n o [] b e = refl
  same-tests n o (kind ∷ es) b e =
      same-tests n o es (b || has_number numbers from n kind) e
      ∙ ap (λ t. fold (λ b (kind : Text × ℕ). b || (nat_le kind.1 n && (nat_le from n && of_kind o kind.0))) (b || (nat_le kind.1 n && (nat_le from n && t))) es) (noted-at n kind.0 ∙ ap (λ o. of_kind o kind.0) e)

  nobody : (n : ℕ) (es : List (Text × ℕ)) (b : Bool) → fold (λ b (kind : Text × ℕ). b || (nat_le kind.1 n && (nat_le from n && false))) b es ≡ b
  nobody n [] b = refl
  nobody n (kind ∷ es) b = nobody n es (b || (nat_le kind.1 n && (nat_le from n && false))) ∙ ap (λ t. b || (nat_le kind.1 n && t)) (and-no (nat_le from n)) ∙ ap (λ t. b || t) (and-no (nat_le kind.1 n)) ∙ or-no b

  due-is : IsStrictlySortedBy text_cmp (keys_of kinds) → (n : ℕ) → due_by numbers from n kinds false ≡ list_any (nat_eq n) (picked (due_test kinds) from (drop from shifts))
  due-is sorted n = by (slice_get shifts n) refl ∙ sym (picked-from (due_test kinds) from n shifts)
    where
      by : (o : Option Shift) → slice_get shifts n ≡ o → due_by numbers from n kinds false ≡ (nat_le from n && passes (due_test kinds) n (slice_get shifts n))
      by None e = same-tests n None kinds false e ∙ nobody n kinds false ∙ sym (ap (λ o. nat_le from n && passes (due_test kinds) n o) e ∙ and-no (nat_le from n))
      by (Some s) e = same-tests n (Some s) kinds false e ∙ over-kinds n (nat_le from n) s.entity.kind kinds sorted false ∙ sym (ap (λ o. nat_le from n && passes (due_test kinds) n o) e)

-- ---- in the order of their numbers

abbrev Due : Type 0
Due = List (ℕ × Unit {0})

abbrev units : List ℕ → Due
units [] = []
units (n ∷ ns) = (n, tt) ∷ units ns

sorted-from : (es : Due) → IsStrictlySortedBy nat_cmp (keys_of es) → T (is_sorted nat_cmp es)
sorted-from [] h = tt
sorted-from (e ∷ es) h = both (below_all nat_cmp e.0 es) (is_sorted nat_cmp es) (higher e.0 es (sorted_head nat_cmp e.0 (keys_of es) h)) (sorted-from es (sorted_tail nat_cmp e.0 (keys_of es) h))
  where
    higher : (k : ℕ) (gs : Due) → AllByRecursion (λ y. nat_cmp k y ≡ Less) (keys_of gs) → T (below_all nat_cmp k gs)
    higher k [] h = tt
    higher k (g ∷ gs) h = both (is_lt (nat_cmp k g.0)) (below_all nat_cmp k gs) (is_lt-Less (nat_cmp k g.0) h.0) (higher k gs h.1)

less : (m n : ℕ) → m < n → T (is_lt (nat_cmp m n))
less m n h = let is : nat_cmp m n ≡ Less = grind (arith, nat_tests, h) in is_lt-Less (nat_cmp m n) is

module _ (p : ℕ → Shift → Bool) where
  picked-below : (m i : ℕ) (shifts : List Shift) → m < i → T (below_all nat_cmp m (units (picked p i shifts)))
  picked-below m i [] h = tt
  picked-below m i (s ∷ shifts) h =
      elim (p i s) as (λ b. T (below_all nat_cmp m (units ((if b then i ∷ [] else []) ++ picked p (i + 1) shifts)))) [
        | true ↦ both (is_lt (nat_cmp m i)) (below_all nat_cmp m (units (picked p (i + 1) shifts))) (less m i h) (picked-below m (i + 1) shifts (omega (arith, h)))
        | false ↦ picked-below m (i + 1) shifts (omega (arith, h))
      ]

  picked-sorted : (i : ℕ) (shifts : List Shift) → T (is_sorted nat_cmp (units (picked p i shifts)))
  picked-sorted i [] = tt
  picked-sorted i (s ∷ shifts) =
      elim (p i s) as (λ b. T (is_sorted nat_cmp (units ((if b then i ∷ [] else []) ++ picked p (i + 1) shifts)))) [
        | true ↦ both (below_all nat_cmp i (units (picked p (i + 1) shifts))) (is_sorted nat_cmp (units (picked p (i + 1) shifts))) (picked-below i (i + 1) shifts (omega arith)) (picked-sorted (i + 1) shifts)
        | false ↦ picked-sorted (i + 1) shifts
      ]

find-units : (n : ℕ) (ns : List ℕ) → is_some (find nat_cmp n (units ns)) ≡ list_any (nat_eq n) ns
find-units n [] = refl
find-units n (m ∷ ns) =
    by (is_eq (nat_cmp n m)) ∙ (λ i. at n m i || find-units n ns i)
  where
    by : (b : Bool) → is_some (cond b (Some tt) (find nat_cmp n (units ns))) ≡ (b || is_some (find nat_cmp n (units ns)))
    by true = refl
    by false = refl

    at : (n m : ℕ) → is_eq (nat_cmp n m) ≡ nat_eq n m
    at n m = grind (arith, nat_tests)

same-unit : (o p : Option (Unit {0})) → is_some o ≡ is_some p → o ≡ p
same-unit None None e = refl
same-unit None (Some x) e = cc
same-unit (Some x) None e = cc
same-unit (Some x) (Some y) e = refl

pub same-due : (due : Due) (ns : List ℕ) → T (is_sorted nat_cmp (units ns)) → IsStrictlySortedBy nat_cmp (keys_of due) → ((n : ℕ) → is_due due n ≡ list_any (nat_eq n) ns) → due ≡ units ns
same-due due ns rise sorted same_numbers =
    same_entries nat_cmp nat_cmp_total nat_cmp-IsAntisymmetric due (units ns) (sorted-from due sorted) rise (λ n. same-unit (find nat_cmp n due) (find nat_cmp n (units ns)) (same_numbers n ∙ sym (find-units n ns)))

-- ---- the ones that a client sees

module _ (kinds : List (Text × ℕ)) (c : ℕ) where
  over-append : (shifts : List Shift) (ns : List ℕ) (list : List OwnerChange) → told_over c shifts list (units ns) ≡ list ++ told_over c shifts [] (units ns)
  over-append shifts [] list = sym (append-nil list)
  over-append shifts (n ∷ ns) list =
      over-append shifts ns (list ++ told_at c shifts n) ∙ append_assoc list (told_at c shifts n) (told_over c shifts [] (units ns)) ∙ ap (λ l. list ++ l) (sym (over-append shifts ns (told_at c shifts n)))

  at-seam : (pre : List Shift) (s : Shift) (rest : List Shift) → slice_get (pre ++ s ∷ rest) (length pre) ≡ Some s
  at-seam [] s rest = refl
  at-seam (t ∷ pre) s rest = at-seam pre s rest

  told-is : (pre rest : List Shift) (i : ℕ) → i ≡ length pre → told_from kinds c i rest ≡ told_over c (pre ++ rest) [] (units (picked (due_test kinds) i rest))
  told-is pre [] i at = refl
  told-is pre (s ∷ rest) i at =
      let later : told_from kinds c (i + 1) rest ≡ told_over c (pre ++ s ∷ rest) [] (units (picked (due_test kinds) (i + 1) rest)) =
      told-is (pre ++ s ∷ []) rest (i + 1) (longer pre s i at) ∙ ap (λ (l : List Shift). told_over c l [] (units (picked (due_test kinds) (i + 1) rest))) (append_assoc pre (s ∷ []) rest) in
      ap (λ l. (if is_since i (start_at kinds s.entity.kind) then told c s ∷ [] else []) ++ l) later
      ∙ elim (is_since i (start_at kinds s.entity.kind)) as (λ b. (if b then told c s ∷ [] else []) ++ told_over c (pre ++ s ∷ rest) [] (units (picked (due_test kinds) (i + 1) rest)) ≡ told_over c (pre ++ s ∷ rest) [] (units ((if b then i ∷ [] else []) ++ picked (due_test kinds) (i + 1) rest))) [
        | true ↦
            let here : told_at c (pre ++ s ∷ rest) i ≡ told c s ∷ [] = ap (λ k. told_at c (pre ++ s ∷ rest) k) at ∙ ap (told_some c) (at-seam pre s rest) in
            sym (over-append (pre ++ s ∷ rest) (picked (due_test kinds) (i + 1) rest) (told_at c (pre ++ s ∷ rest) i) ∙ ap (λ l. l ++ told_over c (pre ++ s ∷ rest) [] (units (picked (due_test kinds) (i + 1) rest))) here)
        | false ↦ refl
      ]
    where
      longer : (pre : List Shift) (s : Shift) (i : ℕ) → i ≡ length pre → i + 1 ≡ length (pre ++ s ∷ [])
      longer pre s i at = let h : length (pre ++ s ∷ []) ≡ length pre + 1 = length-append pre (s ∷ []) in omega (arith, h, at)

  split : (from : ℕ) (shifts : List Shift) → told_from kinds c from (drop from shifts) ≡ told_over c shifts [] (units (picked (due_test kinds) from (drop from shifts)))
  split from shifts = by (nat_le from (length shifts)) refl
    where
      by : (b : Bool) → nat_le from (length shifts) ≡ b → told_from kinds c from (drop from shifts) ≡ told_over c shifts [] (units (picked (due_test kinds) from (drop from shifts)))
      by true e =
          let le : from ≤ length shifts = grind (arith, nat_tests, e) in
          told-is (take from shifts) (drop from shifts) from (sym (length-take-le from shifts le)) ∙ ap (λ (l : List Shift). told_over c l [] (units (picked (due_test kinds) from (drop from shifts)))) (take-append-drop from shifts)
      by false e =
          let lt : length shifts ≤ from = grind (arith, nat_tests, e) in
          let none : drop from shifts ≡ [] = drop_of_length-le shifts lt in
          ap (told_from kinds c from) none ∙ sym (ap (λ (l : List Shift). told_over c shifts [] (units (picked (due_test kinds) from l))) none)

  pub told-by-numbers : (shifts : List Shift) (numbers : List (Text × List ℕ)) (from : ℕ) (due : Due) → IsNumbered shifts numbers → IsStrictlySortedBy text_cmp (keys_of kinds) → IsStrictlySortedBy nat_cmp (keys_of due)
      → ((n : ℕ) → is_due due n ≡ due_by numbers from n kinds false) → told_over c shifts [] due ≡ told_from kinds c from (drop from shifts)
  told-by-numbers shifts numbers from due is kinds_sorted due_sorted all =
      ap (told_over c shifts []) (same-due due (picked (due_test kinds) from (drop from shifts)) (picked-sorted (due_test kinds) from (drop from shifts)) due_sorted (λ n. all n ∙ due-is shifts numbers is kinds from kinds_sorted n))
      ∙ sym (split from shifts)
