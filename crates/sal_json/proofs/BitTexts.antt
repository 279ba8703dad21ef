-- The names that are written for bits give the same bits.
use Rattle.std.proofs.Common.{◌≡◌, ◌≢◌, ℕ, zero, suc, ◌+◌, ◌/◌, ◌%◌, ◌^◌, ◌<◌, ◌≤◌, ◌==◌, nat_lt, Bool, true, false, not, max, bit_or, if◌then◌else◌, List, [], ◌∷◌, ◌++◌, map, length, get_or, All, Some, None, Result, Ok, Err, IsTrue, refl, ap, sym, subst, ◌∙◌, inl, inr, append-nil, arith}
use Rattle.std.specs.Prelude.{◌||◌, nat_eq}
use Rattle.std.specs.Int.{bit_at}
use Rattle.std.specs.Option.{option_map_or, option_and_then}
use Rattle.std.specs.List.{list_all, list_any, slice_get, position, join_by, filter, range_with_len, flat_map}
use Rattle.std.proofs.Math.Nat.{one-le-pow, mod-lt}
use Rattle.std.proofs.lemmas.Nat.{div-add-mod'}
use Rattle.std.proofs.lemmas.Bool.{cases_Bool, cases_lt, cases_order, and_parts, and_from, or_from, or_left, or_right}
use Rattle.std.proofs.lemmas.Bool.Decides.{nat_tests}
use Rattle.std.proofs.lemmas.List.Splits.{slice_split_none, slice_split_at}
use Rattle.std.proofs.lemmas.List.Sums.{position_or_len_is}
use Rattle.std.proofs.lemmas.Nat.Bits.{bit_at_or, bit_at-pow_same, bit_at-pow_other, bit_at-zero, bit_at-lt, bit_at_above, bit_at_cat_low, same_from_bits}
use Rattle.sal_schema.specs.Table.{is_among}
use Rattle.sal_schema.specs.Values.{has_bit, is_taken}
use Rattle.sal_schema.specs.Valid.{all_differ, is_identifier, starts_identifier, goes_on}
use Rattle.sal_schema.proofs.Conjuncts.{and_first, and_second}
use Rattle.sal_schema.proofs.Facts.{slice_get_some, slice_get_there}
use Rattle.sal_schema.proofs.Numbered.{list_all-at}
use Rattle.sal_json.specs.declared.fault.ScalarFault.{ScalarFault}
use Rattle.sal_json.specs.declared.fault.ScalarFault.TheVariants.{WrongKind, UnknownName}
use Rattle.sal_json.specs.Named.{text_eq, number_called, name_with, name_there, with_bit, with_name, bits_of, bits_text, is_space}
use Rattle.sal_json.proofs.Chosen.{same_ok, otherwise, from_some}
use Rattle.sal_json.proofs.BitSets.{other_bit, among_called}
use Rattle.sal_json.proofs.Parted.{parts, bits_after, after-fault}
use Rattle.sal_json.proofs.Readable.{text_eq-same}
use Rattle.sal_json.proofs.TextAgain.{any-false_at, not_true, is_less, place_of_number}
use Rattle.sal_schema.proofs.Children.{first_default}

-- ---- the low bits of a set

abbrev low : ℕ → ℕ → ℕ
low a n = n % 2 ^ a

low-below : (n a i : ℕ) → i < a → bit_at (low a n) i ≡ bit_at n i
low-below n a i less = sym (bit_at_cat_low (n / 2 ^ a) a (n % 2 ^ a) i less) ∙ ap (λ k. bit_at k i) (div-add-mod' n (2 ^ a))

low-above : (n a i : ℕ) → a ≤ i → bit_at (low a n) i ≡ 0
low-above n a i le = bit_at_above (low a n) a i (mod-lt n (one-le-pow a 2 (omega arith))) le

max_both : (a b x y : ℕ) → a ≡ x → b ≡ y → max a b ≡ max x y
max_both a b x y e h = λ i. max (e i) (h i)

bit_of : (n q : ℕ) → has_bit n q ≡ true → bit_at n q ≡ 1
bit_of n q e = grind (arith, nat_tests)

no_bit_of : (n q : ℕ) → has_bit n q ≡ false → bit_at n q ≡ 0
no_bit_of n q e = let less = bit_at-lt n q in let other : bit_at n q ≢ 1 = grind (arith, nat_tests) in omega arith

zero_bit : (n q : ℕ) → bit_at n q ≡ 0 → has_bit n q ≡ false
zero_bit n q e = ap (λ b. b == 1) e

-- one bit more
low-more : (n a : ℕ) → has_bit n a ≡ true → bit_or (low a n) (2 ^ a) ≡ low (a + 1) n
low-more n a here = same_from_bits (bit_or (low a n) (2 ^ a)) (low (a + 1) n) (λ q. bit_at_or (low a n) (2 ^ a) q ∙ (elim (cases_order q a) [
  | inl same ↦
      let e : bit_at (low a n) q ≡ 0 = low-above n a q (omega arith) in
      let h : bit_at (2 ^ a) q ≡ 1 = ap (bit_at (2 ^ a)) same ∙ bit_at-pow_same a in
      max_both (bit_at (low a n) q) (bit_at (2 ^ a) q) 0 1 e h ∙ sym (low-below n (a + 1) q (omega arith) ∙ ap (bit_at n) same ∙ bit_of n a here)
  | inr (inl less) ↦
      let h : bit_at (2 ^ a) q ≡ 0 = bit_at-pow_other a q (λ e. omega arith) in
      max_both (bit_at (low a n) q) (bit_at (2 ^ a) q) (bit_at n q) 0 (low-below n a q less) h ∙ largest (bit_at n q) ∙ sym (low-below n (a + 1) q (omega arith))
  | inr (inr more) ↦
      let h : bit_at (2 ^ a) q ≡ 0 = bit_at-pow_other a q (λ e. omega arith) in
      max_both (bit_at (low a n) q) (bit_at (2 ^ a) q) 0 0 (low-above n a q (omega arith)) h ∙ sym (low-above n (a + 1) q (omega arith))
]))
  where
    largest : (x : ℕ) → max x 0 ≡ x
    largest x = omega arith

low-same : (n a : ℕ) → has_bit n a ≡ false → low a n ≡ low (a + 1) n
low-same n a none = same_from_bits (low a n) (low (a + 1) n) (λ q. elim (cases_order q a) [
  | inl same ↦ low-above n a q (omega arith) ∙ sym (low-below n (a + 1) q (omega arith) ∙ ap (bit_at n) same ∙ no_bit_of n a none)
  | inr (inl less) ↦ low-below n a q less ∙ sym (low-below n (a + 1) q (omega arith))
  | inr (inr more) ↦ low-above n a q (omega arith) ∙ sym (low-above n (a + 1) q (omega arith))
])

low-whole : (n a : ℕ) → ((q : ℕ) → a ≤ q → has_bit n q ≡ false) → low a n ≡ n
low-whole n a none = same_from_bits (low a n) n (λ q. elim (cases_lt q a) [
  | inl less ↦ low-below n a q less
  | inr le ↦ low-above n a q le ∙ sym (no_bit_of n q (none q le))
])

-- ---- the names of bits

text_eq-itself : (a : List ℕ) → text_eq a a ≡ true
text_eq-itself [] = refl
text_eq-itself (x ∷ a) = let here : nat_eq x x ≡ true = grind (arith, nat_tests) in and_from _ _ here (text_eq-itself a)

texts-differ-at : (xs : List (List ℕ)) (k i : ℕ) (d : List ℕ) → all_differ text_eq xs ≡ true → k < i → i < length xs → text_eq (get_or xs k d) (get_or xs i d) ≡ false
texts-differ-at [] k i d e less inside = absurd (omega arith)
texts-differ-at (x ∷ xs) k zero d e less inside = absurd (omega arith)
texts-differ-at (x ∷ xs) zero (suc i) d e less inside =
    let (first, rest) = and_parts (not (list_any (text_eq x) xs)) (all_differ text_eq xs) e in
    any-false_at (text_eq x) xs i d (not_true (list_any (text_eq x) xs) first) (omega arith)
texts-differ-at (x ∷ xs) (suc k) (suc i) d e less inside =
    let (first, rest) = and_parts (not (list_any (text_eq x) xs)) (all_differ text_eq xs) e in
    texts-differ-at xs k i d rest (omega arith) (omega arith)

turned : (a b : List ℕ) → text_eq a b ≡ false → text_eq b a ≡ false
turned a b e = elim (cases_Bool (text_eq b a)) [
  | inl same ↦ let back : text_eq a b ≡ true = ap (text_eq a) (text_eq-same b a same) ∙ text_eq-itself a in cc
  | inr other ↦ other
]

-- the place of a name among distinct ones
place_of_name : (names : List (List ℕ)) (i : ℕ) (name : List ℕ) → all_differ text_eq names ≡ true → slice_get names i ≡ Some name → position (text_eq name) names ≡ Some i
place_of_name names i name differ e =
    let (inside, here) = slice_get_some names i name e in
    let before : (k : ℕ) → k < i → text_eq name (get_or names k name) ≡ false =
    λ k less. turned (get_or names k name) name (ap (text_eq (get_or names k name)) here ∙ texts-differ-at names k i name differ less inside) in
    let at = position_or_len_is (text_eq name) names i name (omega arith) before (λ inside. ap (text_eq name) (sym here) ∙ text_eq-itself name) in
    ap (λ k. if nat_lt k (length names) then Some k else None) at ∙ ap (λ b. if b then Some i else None) (is_less i (length names) inside)

no_space_byte : (c : ℕ) → goes_on c ≡ true → is_space c ≡ false
no_space_byte c e = elim (cases_Bool (is_space c)) [
  | inl space ↦ let same : c ≡ 32 = grind (arith, nat_tests) in let never : goes_on 32 ≡ true = ap goes_on (sym same) ∙ e in cc
  | inr other ↦ other
]

no_space_first : (c : ℕ) → starts_identifier c ≡ true → is_space c ≡ false
no_space_first c e = elim (cases_Bool (is_space c)) [
  | inl space ↦ let same : c ≡ 32 = grind (arith, nat_tests) in let never : starts_identifier 32 ≡ true = ap starts_identifier (sym same) ∙ e in cc
  | inr other ↦ other
]

no_space_rest : (t : List ℕ) → list_all goes_on t ≡ true → list_any is_space t ≡ false
no_space_rest [] e = refl
no_space_rest (c ∷ t) e = let (here, rest) = and_parts (goes_on c) (list_all goes_on t) e in or_from _ _ (no_space_byte c here) (no_space_rest t rest)

no_space : (t : List ℕ) → IsTrue (is_identifier t) → list_any is_space t ≡ false
no_space [] e = refl
no_space (c ∷ t) e = or_from _ _ (no_space_first c (and_first (starts_identifier c) (list_all goes_on t) e)) (no_space_rest t (and_second (starts_identifier c) (list_all goes_on t) e))

filled : (t : List ℕ) → IsTrue (is_identifier t) → (length t == 0) ≡ false
filled [] e = cc
filled (c ∷ t) e = let some : 0 < length (c ∷ t) = omega arith in grind (arith, nat_tests)

-- the name that is written for a bit
record IsBitName (names : List (List ℕ)) (positions : List ℕ) (p : ℕ) (name : List ℕ) : Type 0 where
  called : number_called names positions name ≡ Some p
  some : (length name == 0) ≡ false
  clean : All (λ c. is_space c ≡ false) name

among_place : (numbers : List ℕ) (n : ℕ) → is_among n numbers ≡ true → (i : ℕ) × (slice_get numbers i ≡ Some n)
among_place [] n e = cc
among_place (m ∷ numbers) n e = elim (cases_Bool (m == n)) [
  | inl here ↦ let same : m ≡ n = grind (arith, nat_tests) in (0, ap Some same)
  | inr other ↦ let later = rw other at e in let (i, there) = among_place numbers n later in (suc i, there)
]

module _ (names : List (List ℕ)) (positions : List ℕ) (count : length names ≡ length positions) (texts : all_differ text_eq names ≡ true) (numbers : all_differ nat_eq positions ≡ true)
    (words : IsTrue (list_all is_identifier names)) where
  abbrev f : ℕ → List ℕ
  f = name_with names positions

  bit-IsBitName : (p : ℕ) → is_among p positions ≡ true → IsBitName names positions p (f p)
  bit-IsBitName p among =
      let (i, there) = among_place positions p among in
      let (inside, here) = slice_get_some positions i p there in
      let (name, of_name) = slice_get_there names i (omega arith) in
      let (inside2, here2) = slice_get_some names i name of_name in
      let spelled : f p ≡ name = ap (name_there names) (place_of_number positions i p numbers there) ∙ first_default names i [] name of_name in
      let word : IsTrue (is_identifier name) = subst (λ t. IsTrue (is_identifier t)) (sym here2) (list_all-at is_identifier names i name words inside2) in
      subst (IsBitName names positions p) (sym spelled) (record {
        called = ap (option_and_then (slice_get positions)) (place_of_name names i name texts of_name) ∙ there;
        some = filled name word;
        clean = λ k d less. any-false_at is_space name k d (no_space name word) less;
      })

  -- ---- the text, parted

  parted : (x : ℕ) (xs : List ℕ) → list_all (λ p. is_among p positions) (x ∷ xs) ≡ true → parts (join_by f (32 ∷ []) (x ∷ xs)) ≡ map f (x ∷ xs)
  parted x [] all =
      let n = bit-IsBitName x (and_parts (is_among x positions) true all).0 in
      ap parts (append-nil (f x)) ∙ slice_split_none is_space (f x) n.clean
  parted x (y ∷ ys) all =
      let (here, rest) = and_parts (is_among x positions) (list_all (λ p. is_among p positions) (y ∷ ys)) all in
      let n = bit-IsBitName x here in
      slice_split_at is_space (f x) 32 (join_by f (32 ∷ []) (y ∷ ys)) n.clean refl ∙ ap (λ t. f x ∷ t) (parted y ys rest)

  with_itself : (set p : ℕ) → is_among p positions ≡ true → has_bit set p ≡ false → with_name names positions set (f p) ≡ Ok (bit_or set (2 ^ p))
  with_itself set p among free =
      let n = bit-IsBitName p among in
      ap (λ b. if b then Err WrongKind else option_map_or (with_bit set) (number_called names positions (f p)) (Err UnknownName)) n.some
      ∙ ap (λ o. option_map_or (with_bit set) o (Err UnknownName)) n.called
      ∙ ap (λ b. if b then Err WrongKind else Ok (bit_or set (2 ^ p))) free

  module _ (set : ℕ) (named : (p : ℕ) → has_bit set p ≡ true → is_among p positions ≡ true) where
    abbrev bits : ℕ → ℕ → List ℕ
    bits a n = filter (has_bit set) (range_with_len a n)

    all-named : (a n : ℕ) → list_all (λ p. is_among p positions) (bits a n) ≡ true
    all-named a zero = refl
    all-named a (suc n) = elim (cases_Bool (has_bit set a)) [
      | inl here ↦ ap (λ b. list_all (λ p. is_among p positions) (if b then a ∷ bits (a + 1) n else bits (a + 1) n)) here ∙ and_from _ _ (named a here) (all-named (a + 1) n)
      | inr none ↦ ap (λ b. list_all (λ p. is_among p positions) (if b then a ∷ bits (a + 1) n else bits (a + 1) n)) none ∙ all-named (a + 1) n
    ]

    free : (a : ℕ) → has_bit (low a set) a ≡ false
    free a = zero_bit (low a set) a (low-above set a a (omega arith))

    gathered : (a n : ℕ) → bits_after names positions (Ok (low a set)) (map f (bits a n)) ≡ Ok (low (a + n) set)
    gathered a zero = let same : a ≡ a + 0 = omega arith in ap (λ k. Ok (low k set)) same
    gathered a (suc n) =
        let rest = gathered (a + 1) n in
        let next : (a + 1) + n ≡ a + suc n = omega arith in
        let end : ◌≡◌ {A = Result ℕ ScalarFault} (Ok (low ((a + 1) + n) set)) (Ok (low (a + suc n) set)) = ap (λ k. Ok (low k set)) next in
        elim (cases_Bool (has_bit set a)) [
          | inl here ↦
              ap (λ b. bits_after names positions (Ok (low a set)) (map f (if b then a ∷ bits (a + 1) n else bits (a + 1) n))) here
              ∙ ap (λ r. bits_after names positions r (map f (bits (a + 1) n))) (with_itself (low a set) a (named a here) (free a) ∙ ap Ok (low-more set a here))
              ∙ rest ∙ end
          | inr none ↦
              ap (λ b. bits_after names positions (Ok (low a set)) (map f (if b then a ∷ bits (a + 1) n else bits (a + 1) n))) none
              ∙ ap (λ k. bits_after names positions (Ok k) (map f (bits (a + 1) n))) (low-same set a none)
              ∙ rest ∙ end
        ]

    low-none : low 0 set ≡ 0
    low-none = same_from_bits (low 0 set) 0 (λ q. low-above set 0 q (omega arith) ∙ sym (bit_at-zero q))

    text-parted : (x : ℕ) (xs all : List ℕ) → all ≡ x ∷ xs → list_all (λ p. is_among p positions) all ≡ true → bits_of names positions (join_by f (32 ∷ []) all) ≡ bits_after names positions (Ok 0) (map f all)
    unfolding bits_of
    text-parted x xs all e named_all =
        let named_here : list_all (λ p. is_among p positions) (x ∷ xs) ≡ true = ap (list_all (λ p. is_among p positions)) (sym e) ∙ named_all in
        let n = bit-IsBitName x (and_parts (is_among x positions) (list_all (λ p. is_among p positions) xs) named_here).0 in
        let some : (length (join_by f (32 ∷ []) (x ∷ xs)) == 0) ≡ false = longer (f x) (flat_map (λ y. (32 ∷ []) ++ f y) xs) n.some in
        ap (λ l. bits_of names positions (join_by f (32 ∷ []) l)) e
        ∙ ap (λ b. if b then Ok 0 else bits_after names positions (Ok 0) (parts (join_by f (32 ∷ []) (x ∷ xs)))) some
        ∙ ap (bits_after names positions (Ok 0)) (parted x xs named_here)
        ∙ ap (λ l. bits_after names positions (Ok 0) (map f l)) (sym e)
      where
        longer : (a b : List ℕ) → (length a == 0) ≡ false → (length (a ++ b) == 0) ≡ false
        longer [] b e = cc
        longer (c ∷ a) b e = let more : 0 < length ((c ∷ a) ++ b) = omega arith in grind (arith, nat_tests)

    none-parted : bits_of names positions [] ≡ Ok 0
    unfolding bits_of
    none-parted = refl

    pub bits_again : ((q : ℕ) → 64 ≤ q → has_bit set q ≡ false) → bits_of names positions (bits_text names positions set) ≡ Ok set
    bits_again above =
        let whole = gathered 0 64 in
        let from_none : bits_after names positions (Ok 0) (map f (bits 0 64)) ≡ Ok (low 64 set) = ap (λ k. bits_after names positions (Ok k) (map f (bits 0 64))) (sym low-none) ∙ whole in
        let done = ap Ok (low-whole set 64 above) in
        elim (bits 0 64) as (λ l. bits 0 64 ≡ l → bits_of names positions (join_by f (32 ∷ []) (bits 0 64)) ≡ Ok set) [
          | [] ↦ λ e. ap (λ l. bits_of names positions (join_by f (32 ∷ []) l)) e ∙ none-parted ∙ sym (ap (λ l. bits_after names positions (Ok 0) (map f l)) e) ∙ from_none ∙ done
          | x ∷ xs ↦ λ e. text-parted x xs (bits 0 64) e (all-named 0 64) ∙ from_none ∙ done
        ] refl

-- ---- the bits that were read

more-taken : (positions : List ℕ) (set p q : ℕ) → is_taken positions set q ≡ true → is_among p positions ≡ true → is_taken positions (bit_or set (2 ^ p)) q ≡ true
more-taken positions set p q taken here = elim (cases_Bool (q == p)) [
  | inl same ↦ let e : q ≡ p = grind (arith, nat_tests) in or_right _ _ (ap (λ n. is_among n positions) e ∙ here)
  | inr other ↦ ap (λ b. not b || is_among q positions) (other_bit set p q other) ∙ taken
]

none-taken : (positions : List ℕ) (q : ℕ) → is_taken positions 0 q ≡ true
none-taken positions q = or_left _ _ (ap not (zero_bit 0 q (bit_at-zero q)))

module _ (names : List (List ℕ)) (positions : List ℕ) (q : ℕ) where
  name-taken : (set new : ℕ) (name : List ℕ) → is_taken positions set q ≡ true → with_name names positions set name ≡ Ok new → is_taken positions new q ≡ true
  name-taken set new name all e =
      let (some, found) = otherwise (length name == 0) WrongKind _ new e in
      let (p, called, put) = from_some (with_bit set) (number_called names positions name) UnknownName new found in
      let (free, done) = otherwise (has_bit set p) WrongKind (Ok (bit_or set (2 ^ p))) new put in
      ap (λ n. is_taken positions n q) (sym (same_ok _ _ done)) ∙ more-taken positions set p q all (among_called positions (position (text_eq name) names) p called)

  after-taken : (texts : List (List ℕ)) (set new : ℕ) → is_taken positions set q ≡ true → bits_after names positions (Ok set) texts ≡ Ok new → is_taken positions new q ≡ true
  after-taken [] set new all e = ap (λ n. is_taken positions n q) (sym (same_ok set new e)) ∙ all
  after-taken (t ∷ texts) set new all e =
      elim (with_name names positions set t) as (λ r. with_name names positions set t ≡ r → is_taken positions new q ≡ true) [
        | Ok more ↦ λ was. after-taken texts more new (name-taken set more t all was) (ap (λ r. bits_after names positions r texts) (sym was) ∙ e)
        | Err fault ↦ λ was. let never = sym (ap (λ r. bits_after names positions r texts) was ∙ after-fault names positions fault texts) ∙ e in cc
      ] refl

  read-taken : (t : List ℕ) (new : ℕ) → bits_of names positions t ≡ Ok new → is_taken positions new q ≡ true
  unfolding bits_of
  read-taken t new e = elim (cases_Bool (length t == 0)) [
    | inl empty ↦ let none : ◌≡◌ {A = Result ℕ ScalarFault} (Ok 0) (Ok new) = rw empty at e in ap (λ n. is_taken positions n q) (sym (same_ok 0 new none)) ∙ none-taken positions q
    | inr some ↦ let all = rw some at e in after-taken (parts t) 0 new (none-taken positions q) all
  ]

taken-among : (b c : Bool) → (not b || c) ≡ true → b ≡ true → c ≡ true
taken-among true c e h = e
taken-among false c e h = cc

pub read-named : (names : List (List ℕ)) (positions t : List ℕ) (set : ℕ) → bits_of names positions t ≡ Ok set → (q : ℕ) → has_bit set q ≡ true → is_among q positions ≡ true
read-named names positions t set e q here = taken-among (has_bit set q) (is_among q positions) (read-taken names positions q t set e) here

pub none-above : (names : List (List ℕ)) (positions t : List ℕ) (set : ℕ) → bits_of names positions t ≡ Ok set → IsTrue (list_all (λ p. nat_lt p 64) positions) → (q : ℕ) → 64 ≤ q → has_bit set q ≡ false
none-above names positions t set e small q above = elim (cases_Bool (has_bit set q)) [
  | inl here ↦
      let (i, there) = among_place positions q (read-named names positions t set e q here) in
      let (inside, same) = slice_get_some positions i q there in
      let below : nat_lt q 64 ≡ true = ap (λ n. nat_lt n 64) same ∙ list_all-at (λ p. nat_lt p 64) positions i q small inside in
      let less : q < 64 = grind (arith, nat_tests) in
      absurd (omega arith)
  | inr none ↦ none
]
