-- Finding two of one list that are the same, by a set of those before.
use Rattle.std.proofs.Common.{◌≡◌, ℕ, zero, suc, ◌+◌, ◌<◌, ◌≤◌, Bool, true, false, cond, ◌||◌, List, [], ◌∷◌, ◌++◌, length, take, get_or, refl, sym, ap, ◌∙◌, arith}
use Rattle.std.specs.List.{list_any}
use Rattle.std.specs.Ordering.{is_eq, ordering_then}
use Rattle.std.specs.Cmp.{IsEquivalence}
use Rattle.std.specs.Cmp.Lexicographic.{slice_cmp, lists_total}
use Rattle.std.proofs.lemmas.Cmp.{eq_by_cmp_equiv}
use Rattle.std.specs.BTreeSet.{BTreeSet, contains}
use Rattle.std.specs.Borrow.{Bor}
use Rattle.std.specs.declared.alloc.Global.{Global}
use Rattle.std.specs.declared.vec.Vec.{Vec}
use Rattle.sal_types.specs.contracts.value.CellOrd.TheImpl.Laws as cell_laws
use Rattle.sal_types.specs.declared.value.Cell.{Cell}
use Rattle.sal_types.specs.Order.{cell_cmp}
use Rattle.sal_rules.specs.Rules.{same_cells, has_double}
use Rattle.sal_check.specs.Uniques.{Holds, Key, cells_in, all_cells_in, key_cmp}
use Rattle.sal_check.proofs.There.{take-all}
use Rattle.sal_tree.proofs.Cells.{or_false}

pub same-IsEquivalence : IsEquivalence same_cells
same-IsEquivalence = eq_by_cmp_equiv (lists_total cell_laws.total-law)

pub cmp-cells : (xs ys : List (Bor Cell)) → slice_cmp (λ (a b : Bor Cell). cell_cmp a.now b.now) xs ys ≡ slice_cmp cell_cmp (cells_in xs) (cells_in ys)
cmp-cells [] [] = refl
cmp-cells [] (y ∷ ys) = refl
cmp-cells (x ∷ xs) [] = refl
cmp-cells (x ∷ xs) (y ∷ ys) = ap (ordering_then (cell_cmp x.now y.now)) (cmp-cells xs ys)

any-push : (f : List Cell → Bool) (xs : List (List Cell)) (c : List Cell) → list_any f (xs ++ c ∷ []) ≡ (list_any f xs || f c)
any-push f [] c = or_false (f c)
any-push f (x ∷ xs) c = ap (λ b. f x || b) (any-push f xs c) ∙ sym (or_assoc (f x) (list_any f xs) (f c))
  where
    or_assoc : (a b d : Bool) → ((a || b) || d) ≡ (a || (b || d))
    or_assoc true b d = refl
    or_assoc false b d = refl

shuffle : (a b c d : Bool) → ((a || b) || (c || d)) ≡ ((a || c) || (b || d))
shuffle true b c d = refl
shuffle false true true d = refl
shuffle false true false d = refl
shuffle false false c d = refl

double-push : (xs : List (List Cell)) (c : List Cell) → has_double (xs ++ c ∷ []) ≡ (has_double xs || list_any (same_cells c) xs)
double-push [] c = refl
double-push (x ∷ xs) c =
    (λ i. any-push (same_cells x) xs c i || double-push xs c i)
    ∙ ap (λ b. (list_any (same_cells x) xs || b) || (has_double xs || list_any (same_cells c) xs)) (same-IsEquivalence.symm x c)
    ∙ shuffle (list_any (same_cells x) xs) (same_cells c x) (has_double xs) (list_any (same_cells c) xs)

pub all-at : (vs : List (Vec (Bor Cell) Global)) (i : ℕ) (v : Vec (Bor Cell) Global) → i < length vs → v ≡ get_or vs i v → take (i + 1) (all_cells_in vs) ≡ take i (all_cells_in vs) ++ cells_in v.items ∷ []
all-at [] i v l at = absurd (omega arith)
all-at (w ∷ vs) zero v l at = ap (λ (e : Vec (Bor Cell) Global). cells_in e.items ∷ []) (sym at)
all-at (w ∷ vs) (suc i) v l at = ap (λ n. take n (all_cells_in (w ∷ vs))) (let q : suc i + 1 ≡ suc (i + 1) = omega arith in q) ∙ ap (λ (l : List (List Cell)). cells_in w.items ∷ l) (all-at vs i v (omega arith) at)

all-length : (vs : List (Vec (Bor Cell) Global)) → length (all_cells_in vs) ≡ length vs
all-length [] = refl
all-length (v ∷ vs) = ap suc (all-length vs)

pub all-all : (vs : List (Vec (Bor Cell) Global)) (i : ℕ) → length vs ≤ i → take i (all_cells_in vs) ≡ all_cells_in vs
all-all vs i l = take-all (all_cells_in vs) i (omega (arith, all-length vs))

any-take : (f : List Cell → Bool) (n : ℕ) (xs : List (List Cell)) → list_any f (take n xs) ≡ true → list_any f xs ≡ true
any-take f zero xs e = cc
any-take f (suc n) [] e = cc
any-take f (suc n) (x ∷ xs) e = elim (f x) as (λ b. (b || list_any f (take n xs)) ≡ true → (b || list_any f xs) ≡ true) [ true ↦ λ h. refl | false ↦ λ h. any-take f n xs h ] e

double-take : (n : ℕ) (xs : List (List Cell)) → has_double (take n xs) ≡ true → has_double xs ≡ true
double-take zero xs e = cc
double-take (suc n) [] e = cc
double-take (suc n) (x ∷ xs) e = elim (list_any (same_cells x) (take n xs)) as (λ b. list_any (same_cells x) (take n xs) ≡ b → (b || has_double (take n xs)) ≡ true → (list_any (same_cells x) xs || has_double xs) ≡ true) [
  | true ↦ λ is h. ap (λ b. b || has_double xs) (any-take (same_cells x) n xs is)
  | false ↦ λ is h. ap (λ b. list_any (same_cells x) xs || b) (double-take n xs h) ∙ or_true (list_any (same_cells x) xs)
] refl e
  where
    or_true : (b : Bool) → (b || true) ≡ true
    or_true true = refl
    or_true false = refl

module _ (vs : List (Vec (Bor Cell) Global)) (i : ℕ) (w : Vec (Bor Cell) Global) (v : Key) (is : v.now ≡ w.items) (l : i < length vs) (at : w ≡ get_or vs i w) where
  abbrev before : List (List Cell)
  before = take i (all_cells_in vs)

  more : take (i + 1) (all_cells_in vs) ≡ before ++ cells_in v.now ∷ []
  more = all-at vs i w l at ∙ ap (λ (c : List (Bor Cell)). before ++ cells_in c ∷ []) (sym is)

  -- one that is in the set already
  pub double-found : (set : BTreeSet Key) → Holds set before → contains key_cmp set v ≡ true → true ≡ has_double (all_cells_in vs)
  double-found set holds has = sym (double-take (i + 1) (all_cells_in vs) (ap has_double more ∙ double-push before (cells_in v.now) ∙ ap (λ b. has_double before || b) (sym (holds v) ∙ has) ∙ or_true (has_double before)))
    where
      or_true : (b : Bool) → (b || true) ≡ true
      or_true true = refl
      or_true false = refl

  -- one that is not
  pub double-none : (set : BTreeSet Key) → Holds set before → has_double before ≡ false → contains key_cmp set v ≡ false → has_double (take (i + 1) (all_cells_in vs)) ≡ false
  double-none set holds none new = ap has_double more ∙ double-push before (cells_in v.now) ∙ (λ k. none k || (sym (holds v) ∙ new) k)

  pub holds-more : (set new : BTreeSet Key) → Holds set before → ((q : Key) → contains key_cmp new q ≡ cond (is_eq (key_cmp v q)) true (contains key_cmp set q)) → Holds new (take (i + 1) (all_cells_in vs))
  holds-more set new holds updated q =
      let c = cells_in q.now in
      let d = cells_in v.now in
      updated q
      ∙ (λ k. cond ((ap is_eq (cmp-cells v.now q.now) ∙ same-IsEquivalence.symm d c) k) true (holds q k))
      ∙ either (same_cells c d) (list_any (same_cells c) before)
      ∙ sym (any-push (same_cells c) before d)
      ∙ ap (list_any (same_cells c)) (sym more)
    where
      either : (a b : Bool) → cond a true b ≡ (b || a)
      either true true = refl
      either true false = refl
      either false true = refl
      either false false = refl

pub holds-none : (set : BTreeSet Key) → set.keys ≡ [] → Holds set []
holds-none set none q = ap (list_any (λ k. is_eq (key_cmp q k))) none
