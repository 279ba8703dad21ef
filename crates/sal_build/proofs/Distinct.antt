-- Names that differ from those before them are distinct.
use Rattle.std.proofs.Common.{◌≡◌, ℕ, zero, suc, ◌+◌, ◌<◌, ◌≤◌, Bool, true, false, not, ◌&&◌, nat_eq, IsTrue, List, [], ◌∷◌, ◌++◌, take, length, Option, Some, None, refl, sym, ap, ◌∙◌, arith, append_assoc, length-append}
use Rattle.std.specs.List.{list_all, list_any}
use Rattle.std.specs.Ordering.{nat_cmp}
use Rattle.std.specs.Cmp.{Equal-is}
use Rattle.std.specs.FinMap.{nat_cmp-IsAntisymmetric, slice_cmp-IsAntisymmetric}
use Rattle.sal_types.specs.Order.{then-first, then-second}
use Rattle.std.specs.declared.cmp.Ordering.TheVariants.{Equal}
use Rattle.std.proofs.lemmas.Bool.Decides.{nat_tests}
use Rattle.sal_module.specs.Keywords.{same}
use Rattle.sal_schema.specs.declared.names.Named.{Named}
use Rattle.sal_schema.specs.Names.{name_cmp, is_called, are_distinct, named, name_of_parts}
use Rattle.sal_schema.specs.Table.{each_from, all_from}
use Rattle.sal_schema.proofs.Conjuncts.{and_first, and_second, or_first, or_second}
use Rattle.sal_build.proofs.Quiet.{both}

-- ---- names

-- two that are called alike are the same
same_parts : (p q : Option ℕ) (m k : ℕ) (t u : List ℕ) → name_cmp (name_of_parts p m t) (name_of_parts q k u) ≡ Equal → (p ≡ q) × ((m ≡ k) × (t ≡ u))
same_parts None None m k t u e = (refl, (nat_cmp-IsAntisymmetric m k (then-first _ _ e), slice_cmp-IsAntisymmetric nat_cmp-IsAntisymmetric t u (then-second (nat_cmp m k) _ e)))
same_parts None (Some q) m k t u e = cc
same_parts (Some p) None m k t u e = cc
same_parts (Some p) (Some q) m k t u e =
    let rest = then-second (nat_cmp p q) _ e in
    (ap Some (nat_cmp-IsAntisymmetric p q (then-first _ _ e)), (nat_cmp-IsAntisymmetric m k (then-first _ _ rest), slice_cmp-IsAntisymmetric nat_cmp-IsAntisymmetric t u (then-second (nat_cmp m k) _ rest)))

pub called-same : (p q : Option ℕ) (m k n : ℕ) (t u : List ℕ) → is_called (name_of_parts p m t) (named q k u n) ≡ true → (q ≡ p) × ((k ≡ m) × (u ≡ t))
called-same p q m k n t u e = same_parts q p k m u t ((Equal-is (name_cmp (name_of_parts q k u) (name_of_parts p m t))).0 e)

pub same-itself : (t : List ℕ) → same t t ≡ true
same-itself [] = refl
same-itself (c ∷ t) = let here : nat_eq c c ≡ true = grind (arith, nat_tests) in rw here (same-itself t)

-- ---- lists

pub all-more : {X : Type 0} (a b : ℕ → X → Bool) (i : ℕ) (xs : List X) → ((j : ℕ) (y : X) → i ≤ j → IsTrue (a j y) → IsTrue (b j y)) → IsTrue (all_from a i xs) → IsTrue (all_from b i xs)
all-more a b i [] each h = refl
all-more a b i (x ∷ xs) each h =
    both (b i x) (all_from b (i + 1) xs) (each i x (omega arith) (and_first (a i x) (all_from a (i + 1) xs) h))
    (all-more a b (i + 1) xs (λ j y less. each j y (omega arith)) (and_second (a i x) (all_from a (i + 1) xs) h))

-- none before a place passes
any-at : {X : Type 0} (p : X → Bool) (done : List X) (x : X) (rest : List X) (j : ℕ) → length done < j → list_any p (take j (done ++ x ∷ rest)) ≡ false → p x ≡ false
any-at p [] x rest zero h e = absurd (omega arith)
any-at p [] x rest (suc j) h e = or_first (p x) (list_any p (take j rest)) e
any-at p (y ∷ done) x rest zero h e = absurd (omega arith)
any-at p (y ∷ done) x rest (suc j) h e = any-at p done x rest j (omega arith) (or_second (p y) (list_any p (take j (done ++ x ∷ rest))) e)

pub true-is : (b : Bool) → IsTrue (not b) → b ≡ false
true-is true h = cc
true-is false h = refl

pub false-is : (b : Bool) → b ≡ false → IsTrue (not b)
false-is b e = rw e refl

-- each element with each later one
abbrev pub pairwise : {X : Type 0} → (ℕ → X → ℕ → X → Bool) → ℕ → List X → Bool
pairwise r i [] = true
pairwise r i (x ∷ xs) = all_from (r i x) (i + 1) xs && pairwise r (i + 1) xs

pub pairs : {X : Type 0} (p : X → X → Bool) (whole done rest : List X) (k : ℕ) → k ≡ length done → whole ≡ done ++ rest
    → IsTrue (all_from (λ j y. not (list_any (p y) (take j whole))) k rest) → IsTrue (pairwise (λ i x j y. not (p y x)) k rest)
pairs p whole done [] k count is h = refl
pairs p whole done (x ∷ rest) k count is h =
    let later = and_second (not (list_any (p x) (take k whole))) (all_from (λ j y. not (list_any (p y) (take j whole))) (k + 1) rest) h in
    both (all_from (λ j y. not (p y x)) (k + 1) rest) (pairwise (λ i x j y. not (p y x)) (k + 1) rest)
    (all-more (λ j y. not (list_any (p y) (take j whole))) (λ j y. not (p y x)) (k + 1) rest (λ j y less free.
    false-is (p y x) (any-at (p y) done x rest j (omega arith) (ap (λ xs. list_any (p y) (take j xs)) (sym is) ∙ true-is (list_any (p y) (take j whole)) free))) later)
    (pairs p whole (done ++ x ∷ []) rest (k + 1) (omega (arith, length-append done (x ∷ []))) (is ∙ sym (append_assoc done (x ∷ []) rest)) later)

-- ---- distinct names

-- none of these is called as one of those
abbrev pub are_apart : List Named → List Named → Bool
are_apart entries others = list_all (λ (e : Named). not (list_any (is_called e.name) others)) entries

any-front : {X : Type 0} (p : X → Bool) (xs ys : List X) → list_any p xs ≡ false → list_any p ys ≡ false → list_any p (xs ++ ys) ≡ false
any-front p [] ys h k = k
any-front p (x ∷ xs) ys h k = rw (or_first (p x) (list_any p xs) h) (any-front p xs ys (or_second (p x) (list_any p xs) h) k)

apart-joined : (es fs gs : List Named) → IsTrue (are_apart es fs) → IsTrue (are_apart es gs) → IsTrue (are_apart es (fs ++ gs))
apart-joined [] fs gs h k = refl
apart-joined (e ∷ es) fs gs h k =
    let here = any-front (is_called e.name) fs gs (true-is (list_any (is_called e.name) fs) (and_first (not (list_any (is_called e.name) fs)) (are_apart es fs) h))
    (true-is (list_any (is_called e.name) gs) (and_first (not (list_any (is_called e.name) gs)) (are_apart es gs) k)) in
    both (not (list_any (is_called e.name) (fs ++ gs))) (are_apart es (fs ++ gs)) (false-is (list_any (is_called e.name) (fs ++ gs)) here)
    (apart-joined es fs gs (and_second (not (list_any (is_called e.name) fs)) (are_apart es fs) h) (and_second (not (list_any (is_called e.name) gs)) (are_apart es gs) k))

apart-none : (es : List Named) → IsTrue (are_apart es [])
apart-none [] = refl
apart-none (e ∷ es) = apart-none es

distinct-joined : (es fs : List Named) → IsTrue (are_distinct es) → IsTrue (are_apart es fs) → IsTrue (are_distinct fs) → IsTrue (are_distinct (es ++ fs))
distinct-joined [] fs h apart k = k
distinct-joined (e ∷ es) fs h apart k =
    let here = any-front (is_called e.name) es fs (true-is (list_any (is_called e.name) es) (and_first (not (list_any (is_called e.name) es)) (are_distinct es) h))
    (true-is (list_any (is_called e.name) fs) (and_first (not (list_any (is_called e.name) fs)) (are_apart es fs) apart)) in
    both (not (list_any (is_called e.name) (es ++ fs))) (are_distinct (es ++ fs)) (false-is (list_any (is_called e.name) (es ++ fs)) here)
    (distinct-joined es fs (and_second (not (list_any (is_called e.name) es)) (are_distinct es) h) (and_second (not (list_any (is_called e.name) fs)) (are_apart es fs) apart) k)

module _ {X : Type 0} (f : ℕ → X → List Named) (r : ℕ → X → ℕ → X → Bool) (alone : (i : ℕ) (x : X) → IsTrue (are_distinct (f i x)))
    (shows : (i : ℕ) (x : X) (j : ℕ) (y : X) → IsTrue (r i x j y) → IsTrue (are_apart (f i x) (f j y))) where
  apart-each : (i : ℕ) (x : X) (j : ℕ) (xs : List X) → IsTrue (all_from (r i x) j xs) → IsTrue (are_apart (f i x) (each_from f j xs))
  apart-each i x j [] h = apart-none (f i x)
  apart-each i x j (y ∷ xs) h =
      apart-joined (f i x) (f j y) (each_from f (j + 1) xs) (shows i x j y (and_first (r i x j y) (all_from (r i x) (j + 1) xs) h))
      (apart-each i x (j + 1) xs (and_second (r i x j y) (all_from (r i x) (j + 1) xs) h))

  pub distinct-pairs : (i : ℕ) (xs : List X) → IsTrue (pairwise r i xs) → IsTrue (are_distinct (each_from f i xs))
  distinct-pairs i [] h = refl
  distinct-pairs i (x ∷ xs) h =
      distinct-joined (f i x) (each_from f (i + 1) xs) (alone i x) (apart-each i x (i + 1) xs (and_first (all_from (r i x) (i + 1) xs) (pairwise r (i + 1) xs) h))
      (distinct-pairs (i + 1) xs (and_second (all_from (r i x) (i + 1) xs) (pairwise r (i + 1) xs) h))
