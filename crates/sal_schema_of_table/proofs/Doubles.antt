-- Finding two of a list that are the same, by a set of those before.
use Rattle.std.proofs.Common.{◌≡◌, ℕ, ◌+◌, ◌<◌, ◌≤◌, Bool, true, false, cond, not, ◌&&◌, List, [], ◌∷◌, length, drop, get_or, refl, sym, ap, ◌∙◌}
use Rattle.std.specs.Prelude.{◌||◌}
use Rattle.std.specs.List.{list_any, list_all}
use Rattle.std.specs.Prelude.{nat_eq}
use Rattle.std.specs.Cmp.{unsigned_ties}
use Rattle.std.specs.Cmp.Lexicographic.{slice_cmp, texts_ties}
use Rattle.std.specs.Ordering.{eq_by_cmp, is_eq, nat_cmp}
use Rattle.std.specs.declared.cmp.Ordering.{Ordering}
use Rattle.std.specs.BTreeSet.{BTreeSet, contains}
use Rattle.std.specs.Borrow.{Bor}
use Rattle.std.proofs.lemmas.List.{drop_more, drop_all}
use Rattle.sal_schema.specs.Valid.{all_differ, text_eq}

split : (a b c d : Bool) → (not (cond a true b) && (c && not d)) ≡ ((not b && c) && not (a || d))
split true true c d = refl
split true false true d = refl
split true false false d = refl
split false true c d = refl
split false false c d = refl

shuffle : (a b c d : Bool) → (a && ((b && c) && d)) ≡ ((a && b) && (c && d))
shuffle true true c d = refl
shuffle true false c d = refl
shuffle false b c d = refl

-- none is one of those that were seen, or passes the test
none_of : {K : Type 0} (test seen : K → Bool) (xs : List K) → list_all (λ k. not (cond (test k) true (seen k))) xs ≡ (list_all (λ k. not (seen k)) xs && not (list_any test xs))
none_of test seen [] = refl
none_of test seen (x ∷ xs) =
    ap (λ b. not (cond (test x) true (seen x)) && b) (none_of test seen xs) ∙ split (test x) (seen x) (list_all (λ k. not (seen k)) xs) (list_any test xs)

all_pass : {K : Type 0} (xs : List K) (b : Bool) → (list_all (λ (k : K). true) xs && b) ≡ b
all_pass [] b = refl
all_pass (x ∷ xs) b = all_pass xs b

module _ {K : Type 0} (cmp : K → K → Ordering) where
  abbrev same : K → K → Bool
  same = eq_by_cmp cmp

  abbrev pub ref_cmp : Bor K → Bor K → Ordering
  ref_cmp x y = cmp x.now y.now

  abbrev pub ref_to : K → Bor K
  ref_to k = record { ref_ptr = (0, 0); now = k }

  abbrev pub has : BTreeSet (Bor K) → K → Bool
  has set k = contains ref_cmp set (ref_to k)

  -- none of these is one that was seen, and no two of them are the same
  abbrev pub fresh : (K → Bool) → List K → Bool
  fresh seen [] = true
  fresh seen (x ∷ xs) = not (seen x) && fresh (λ k. cond (eq_by_cmp cmp x k) true (seen k)) xs

  fresh-is : (seen : K → Bool) (xs : List K) → fresh seen xs ≡ (list_all (λ k. not (seen k)) xs && all_differ same xs)
  fresh-is seen [] = refl
  fresh-is seen (x ∷ xs) =
      ap (λ b. not (seen x) && b) (fresh-is (λ k. cond (same x k) true (seen k)) xs ∙ ap (λ b. b && all_differ same xs) (none_of (same x) seen xs))
      ∙ shuffle (not (seen x)) (list_all (λ k. not (seen k)) xs) (not (list_any (same x) xs)) (all_differ same xs)

  pub at_first : (set : BTreeSet (Bor K)) (xs : List K) → set.keys ≡ [] → fresh (has set) xs ≡ all_differ same xs
  at_first set xs none =
      (λ i. fresh (λ k. list_any (λ (q : Bor K). is_eq (cmp k q.now)) (none i)) xs) ∙ fresh-is (λ k. false) xs ∙ all_pass xs (all_differ same xs)

  module _ (set : BTreeSet (Bor K)) (xs : List K) (i : ℕ) (x : K) (inside : i < length xs) (here : x ≡ get_or xs i x) where
    abbrev rest : List K
    rest = drop (i + 1) xs

    one : drop i xs ≡ x ∷ rest
    one = drop_more xs i x inside ∙ ap (λ y. y ∷ rest) (sym here)

    -- one that was there
    pub seen_before : has set x ≡ true → fresh (has set) (drop i xs) ≡ false
    seen_before is = ap (fresh (has set)) one ∙ ap (λ b. not b && fresh (λ k. cond (same x k) true (has set k)) rest) is

    -- and one that was not
    pub one_more : (new : BTreeSet (Bor K)) → has set x ≡ false → ((q : Bor K) → contains ref_cmp new q ≡ cond (is_eq (ref_cmp (ref_to x) q)) true (contains ref_cmp set q))
        → fresh (has new) rest ≡ fresh (has set) (drop i xs)
    one_more new is updated =
        (λ j. fresh (λ k. updated (ref_to k) j) rest) ∙ sym (ap (fresh (has set)) one ∙ ap (λ b. not b && fresh (λ k. cond (same x k) true (has set k)) rest) is)

  pub at_last : (set : BTreeSet (Bor K)) (xs : List K) (i : ℕ) → length xs ≤ i → fresh (has set) (drop i xs) ≡ true
  at_last set xs i end = ap (fresh (has set)) (drop_all i xs end)

pub texts : (xs : List (List ℕ)) → all_differ (eq_by_cmp (slice_cmp nat_cmp)) xs ≡ all_differ text_eq xs
texts xs = sym (λ i. all_differ (λ a b. texts_ties a b i) xs)

pub numbers : (xs : List ℕ) → all_differ (eq_by_cmp nat_cmp) xs ≡ all_differ nat_eq xs
numbers xs = sym (λ i. all_differ (λ a b. unsigned_ties a b i) xs)
