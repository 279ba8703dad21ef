-- The result of a binary search among names, and the node of a name.
use Rattle.std.proofs.Common.{◌≡◌, ℕ, zero, suc, ◌<◌, Bool, true, false, cond, not, List, [], ◌∷◌, length, get_or, inl, inr, IsTrue, Option, Some, None, sym, refl, ap, ◌∙◌, arith}
use Rattle.std.proofs.lemmas.Bool.{cases_lt, true≢false}
use Rattle.std.proofs.lemmas.List.Folds.{list_any_none, list_any_at}
use Rattle.std.proofs.lemmas.List.Sorted.{searchable_from_sorted, list_any-IsPermutation, Contains-permutation, IsPermutation-sym}
use Rattle.std.specs.Prelude.{option_map, find, Contains}
use Rattle.std.specs.List.{list_any, All, HoldsAt}
use Rattle.std.specs.List.Sorted.{IsSorted, IsPermutation, IsNonDecreasingBy, IsPartitionPoint}
use Rattle.std.specs.Ordering.{is_eq, ordering_index}
use Rattle.std.specs.declared.cmp.Ordering.TheVariants.{Less, Equal, Greater}
use Rattle.std.specs.Cmp.{eq_by_cmp_equiv}
use Rattle.sal_schema.specs.declared.names.Name.{Name}
use Rattle.sal_schema.specs.declared.names.Named.{Named}
use Rattle.sal_schema.proofs.Conjuncts.{and_first, and_second, or_first, or_second}
use Rattle.sal_schema.specs.Names.{name_cmp, named_cmp, name_cmp-IsTotalOrder, is_called, lookup, Finds, are_distinct}

-- names that ascend rise by their order to any name
pub names_rise : (names : List Named) (name : Name) → IsSorted named_cmp names
    → IsNonDecreasingBy (λ (y : Named). ordering_index (name_cmp y.name name)) names
names_rise names name sorted = searchable_from_sorted name_cmp-IsTotalOrder (λ (y : Named). y.name) names name sorted

-- if some are before a name and the others after it, none is equal to it
pub none_is_called : (names : List Named) (name : Name) (i : ℕ)
    → IsPartitionPoint (λ (y : Named). name_cmp y.name name ≡ Less) (λ (y : Named). name_cmp y.name name ≡ Greater) names i
    → list_any (is_called name) names ≡ false
none_is_called names name i (before, behind) = list_any_none (is_called name) names at
  where
    at : All (λ y. is_called name y ≡ false) names
    at k d inside = elim (cases_lt k i) [ inl below ↦ ap is_eq (before k d (omega arith) below) | inr above ↦ ap is_eq (behind k d above inside) ]

-- the name at a place at which the search ended
pub found_at : (names : List Named) (name : Name) (i : ℕ) (entry : Named) → i < length names
    → HoldsAt (λ (y : Named). name_cmp y.name name ≡ Equal) names i → entry ≡ get_or names i entry → Finds names name (Some entry.number)
found_at names name i entry inside equal here =
    let called : is_called name entry ≡ true = ap (is_called name) here ∙ ap is_eq (equal entry) in
    (entry, (i, inside, sym here), called, refl)

find_none : {X : Type 0} (p : X → Bool) (xs : List X) → list_any p xs ≡ false → find p xs ≡ None
find_none p [] none = refl
find_none p (x ∷ xs) none = rw (or_first (p x) (list_any p xs) none) (find_none p xs (or_second (p x) (list_any p xs) none))

-- a name that is distinct from those of a list is not called as one of them
module _ (name : Name) where
  -- two that are called so are called as each other
  called_alike : (x y : Named) → is_called name x ≡ true → is_called name y ≡ true → is_called x.name y ≡ true
  called_alike x y is called =
      let laws = eq_by_cmp_equiv name_cmp-IsTotalOrder in
      laws.congr y.name name x.name called ∙ laws.symm name x.name ∙ is

  -- the first is called so, so it is the one
  first : (x : Named) (names : List Named) (entry : Named) → IsTrue (are_distinct (x ∷ names)) → Contains (x ∷ names) entry
      → is_called name entry ≡ true → is_called name x ≡ true → Some x ≡ Some entry
  first x names entry distinct (zero, inside, here) called is = ap Some here
  first x names entry distinct (suc k, inside, here) called is =
      let there : list_any (is_called x.name) names ≡ true =
      list_any_at (is_called x.name) names k entry (omega arith) (ap (is_called x.name) here ∙ called_alike x entry is called) in
      let no = and_first (not (list_any (is_called x.name) names)) (are_distinct names) distinct in
      absurd (true≢false (sym no ∙ ap not there))

  -- the first is not called so, so it is a later one
  later : (x : Named) (names : List Named) (entry : Named) → Contains (x ∷ names) entry → is_called name entry ≡ true → is_called name x ≡ false
      → Contains names entry
  later x names entry (zero, inside, here) called isnt = absurd (true≢false (sym called ∙ ap (is_called name) (sym here) ∙ isnt))
  later x names entry (suc k, inside, here) called isnt = (k, omega arith, here)

  -- the one that is called so is the first that is
  pub found_first : (names : List Named) (entry : Named) → IsTrue (are_distinct names) → Contains names entry → is_called name entry ≡ true
      → find (is_called name) names ≡ Some entry
  found_first [] entry distinct (k, inside, here) called = absurd (omega arith)
  found_first (x ∷ names) entry distinct here called =
      elim (is_called name x) as (λ b. is_called name x ≡ b → cond b (Some x) (find (is_called name) names) ≡ Some entry) [
        | true ↦ λ is. first x names entry distinct here called is
        | false ↦ λ isnt. found_first names entry (and_second (not (list_any (is_called x.name) names)) (are_distinct names) distinct) (later x names entry here called isnt) called
      ] refl

-- what a search among the same names in another order finds is what the name means
pub lookup-Finds : (names sorted : List Named) (name : Name) (answer : Option ℕ) → IsTrue (are_distinct names) → IsPermutation names sorted
    → Finds sorted name answer → answer ≡ lookup names name
lookup-Finds names sorted name None distinct same none =
    sym (ap (option_map (λ (entry : Named). entry.number)) (find_none (is_called name) names (list_any-IsPermutation (is_called name) names sorted same ∙ none)))
lookup-Finds names sorted name (Some n) distinct same (entry, here, called, number) =
    let first = found_first name names entry distinct (Contains-permutation sorted names entry (IsPermutation-sym names sorted same) here) called in
    sym (ap (option_map (λ (entry : Named). entry.number)) first ∙ ap Some number)
