-- A conflict names a commit that touched its path.
use Rattle.std.proofs.Common.{◌≡◌, ℕ, zero, suc, ◌+◌, ◌-◌, ◌<◌, ◌≤◌, Bool, true, false, List, [], ◌∷◌, ◌++◌, ◌||◌, take, reverse, Option, None, Some, refl, ap, sym, ◌∙◌, subst, cond, if◌then◌else◌, arith, inl, inr}
use Rattle.std.proofs.lemmas.Bool.{or_parts}
use Rattle.std.specs.Prelude.{not, find, unwrap_or, slice_get}
use Rattle.std.specs.List.{list_any, All, Any, Contains}
use Rattle.std.specs.Option.{option_map}
use Rattle.std.proofs.lemmas.List.{take_all, take_more}
use Rattle.std.proofs.lemmas.List.Sums.{fold-append}
use Rattle.std.proofs.lemmas.List.Elements.{All-contains, All-cons, All-nil, All-weaker, Contains-append_left, Contains-append_right, Contains-push}
use Rattle.std.proofs.lemmas.List.Sorted.{IsPermutation-reverse, All-permutation, list_any-IsPermutation}
use Rattle.std.proofs.lemmas.Option.{slice_get_cases, same_Some}
use Rattle.sal_types.specs.declared.value.Store.{Store}
use Rattle.sal_types.specs.declared.value.Step.{Step}
use Rattle.sal_types.specs.declared.row.Row.{Row}
use Rattle.sal_types.specs.Order.{path_eq}
use Rattle.sal_types.specs.Prefix.{is_prefix}
use Rattle.sal_types.specs.Tree.{cell, has}
use Rattle.sal_rows.specs.declared.op.Op.{Op}
use Rattle.sal_rows.specs.Apply.{apply_ops}
use Rattle.sal_rows.specs.Touch.{touches}
use Rattle.sal_rows.specs.Commits.{numbers_after, numbers_in, tree_after, tree_at, commit_touches, touches_at, is_unchanged, unchanged_by, last_touch, kind_over}
use Rattle.sal_rows.specs.declared.clash.Span.{Span}
use Rattle.sal_rows.specs.PathClash.{Difference, difference, IsNamedIn}
use Rattle.sal_rows.proofs.Cells.{path_eq-itself}
use Rattle.sal_rows.proofs.Untouched.{no_cell, cell-untouched}

-- ---- trees with the same cells below a path

cell_of_rest : (x : Row) (rows : List Row) (r : List Step) → cell (x ∷ rows) r ≡ None → cell rows r ≡ None
cell_of_rest x rows r = elim (path_eq r x.path) as (λ b. (if b then Some x.cell else cell rows r) ≡ None → cell rows r ≡ None) [ true ↦ λ e. cc | false ↦ λ e. e ]

has-none : (rows : List Row) (p : List Step) → ((r : List Step) → is_prefix p r ≡ true → cell rows r ≡ None) → has rows p ≡ false
has-none [] p none = refl
has-none (x ∷ rows) p none =
    elim (is_prefix p x.path) as (λ b. is_prefix p x.path ≡ b → (b || has rows p) ≡ false) [
      | true ↦ λ e. let here : cell (x ∷ rows) x.path ≡ Some x.cell = ap (λ b. if b then Some x.cell else cell rows x.path) (path_eq-itself x.path) in let no : cell (x ∷ rows) x.path ≡ None = none x.path e in cc
      | false ↦ λ e. has-none rows p (λ r below. cell_of_rest x rows r (none r below))
    ] refl

-- both have a row at the path or below it, or neither has
has-same : (xs ys : List Row) (p : List Step) → ((r : List Step) → is_prefix p r ≡ true → cell xs r ≡ cell ys r) → has xs p ≡ has ys p
has-same xs ys p same =
    elim (has ys p) as (λ b. has ys p ≡ b → has xs p ≡ b) [
      | true ↦ λ e. elim (has xs p) as (λ b. has xs p ≡ b → b ≡ true) [
        | true ↦ λ f. refl
        | false ↦ λ f. let none : has ys p ≡ false = has-none ys p (λ r below. sym (same r below) ∙ no_cell (is_prefix p) xs r f below) in cc
      ] refl
      | false ↦ λ e. has-none xs p (λ r below. same r below ∙ no_cell (is_prefix p) ys r e below)
    ] refl

-- ---- spans in which no commit touches the path

module _ (opening : Store → List Row) (commits : List (List Op)) where
  one_commit : (s : Store) (p r : List Step) (k : ℕ) → commit_touches (tree_at opening commits s k) s p (slice_get commits k) ≡ false → is_prefix p r ≡ true → cell (tree_at opening commits s (k + 1)) r ≡ cell (tree_at opening commits s k) r
  one_commit s p r k h below =
      elim ((slice_get_cases commits k).1) [
        | inl w ↦
            let ops = w.0 in
            let inside = w.1 in
            let at = w.2 in
            let is = w.3 in
            let more : take (k + 1) commits ≡ take k commits ++ ops ∷ [] = take_more commits k ops inside ∙ ap (λ (o : List Op). take k commits ++ o ∷ []) is in
            let next : tree_at opening commits s (k + 1) ≡ apply_ops (tree_at opening commits s k) s ops = ap (tree_after s (opening s)) more ∙ fold-append (λ tree os. apply_ops tree s os) (opening s) (take k commits) (ops ∷ []) in
            let untouched : touches (tree_at opening commits s k) s ops p ≡ false = sym (ap (commit_touches (tree_at opening commits s k) s p) at) ∙ h in
            ap (λ (tree : List Row). cell tree r) next ∙ cell-untouched (tree_at opening commits s k) s ops p r untouched below
        | inr w ↦
            let past = w.0 in
            ap (λ (cs : List (List Op)). cell (tree_after s (opening s) cs) r) (take_all (k + 1) commits (omega (arith, past)) ∙ sym (take_all k commits past))
      ]

  many_commits : (s : Store) (p r : List Step) (a n : ℕ) → list_any (touches_at opening commits s p) (numbers_after a n) ≡ false → is_prefix p r ≡ true → cell (tree_at opening commits s (a + n)) r ≡ cell (tree_at opening commits s a) r
  many_commits s p r a zero h below = let e : a + zero ≡ a = omega arith in ap (λ k. cell (tree_at opening commits s k) r) e
  many_commits s p r a (suc n) h below =
      let e : a + suc n ≡ a + 1 + n = omega arith in
      let back : a + 1 - 1 ≡ a = omega arith in
      let first : commit_touches (tree_at opening commits s a) s p (slice_get commits a) ≡ false =
      ap (λ k. commit_touches (tree_at opening commits s k) s p (slice_get commits k)) (sym back) ∙ (or_parts (touches_at opening commits s p (a + 1)) (list_any (touches_at opening commits s p) (numbers_after (a + 1) n)) h).0 in
      ap (λ k. cell (tree_at opening commits s k) r) e ∙ many_commits s p r (a + 1) n (or_parts (touches_at opening commits s p (a + 1)) _ h).1 below
      ∙ one_commit s p r a first below

  unchanged : (s : Store) (p : List Step) (span : Span) → span.from ≤ span.to → list_any (touches_at opening commits s p) (numbers_in span) ≡ false → is_unchanged opening commits s p span ≡ true
  unchanged s p span le h =
      let e : span.from + (span.to - span.from) ≡ span.to = omega (arith, le) in
      let same : has (tree_at opening commits s span.to) p ≡ has (tree_at opening commits s span.from) p =
      has-same (tree_at opening commits s span.to) (tree_at opening commits s span.from) p (λ r below. ap (λ k. cell (tree_at opening commits s k) r) (sym e) ∙ many_commits s p r span.from (span.to - span.from) h below) in
      (λ i. unchanged_by (has (tree_at opening commits s span.from) p) (same i) (h i))
      ∙ elim (has (tree_at opening commits s span.from) p) as (λ b. unchanged_by b b false ≡ true) [ true ↦ refl | false ↦ refl ]

-- ---- searches

pub find_holds : {X : Type 0} (t : X → Bool) (xs : List X) (x : X) → find t xs ≡ Some x → (t x ≡ true) × Contains xs x
find_holds t [] x = λ e. cc
find_holds t (y ∷ xs) x =
    elim (t y) as (λ b. t y ≡ b → cond b (Some y) (find t xs) ≡ Some x → (t x ≡ true) × Contains (y ∷ xs) x) [
      | true ↦ λ h e. let same : y ≡ x = same_Some y x e in (sym (ap t same) ∙ h, subst (λ z. Contains (y ∷ xs) z) same (Contains-append_left (y ∷ []) xs y (Contains-push [] y)))
      | false ↦ λ h e. let rest = find_holds t xs x e in (rest.0, Contains-append_right (y ∷ []) xs x rest.1)
    ] refl

pub find_none : {X : Type 0} (t : X → Bool) (xs : List X) → find t xs ≡ None → list_any t xs ≡ false
find_none t [] = λ e. refl
find_none t (y ∷ xs) = elim (t y) as (λ b. cond b (Some y) (find t xs) ≡ None → (b || list_any t xs) ≡ false) [ true ↦ λ e. cc | false ↦ λ e. find_none t xs e ]

-- the numbers of a span are in it
pub numbers_lie : (a n : ℕ) → All (λ k. (a < k) × (k ≤ a + n)) (numbers_after a n)
numbers_lie a zero = All-nil _
numbers_lie a (suc n) =
    let first : (a < a + 1) × (a + 1 ≤ a + suc n) = (omega arith, omega arith) in
    let wider : (k : ℕ) → (a + 1 < k) × (k ≤ a + 1 + n) → (a < k) × (k ≤ a + suc n) = λ k l. (omega (arith, l.0), omega (arith, l.1)) in
    All-cons (λ k. (a < k) × (k ≤ a + suc n)) (a + 1) (numbers_after (a + 1) n) first
    (All-weaker (λ k. (a + 1 < k) × (k ≤ a + 1 + n)) (λ k. (a < k) × (k ≤ a + suc n)) wider (numbers_after (a + 1) n) (numbers_lie (a + 1) n))

module _ (opening : Store → List Row) (commits : List (List Op)) where
  touch_named : (s : Store) (p : List Step) (span : Span) → span.from ≤ span.to → is_unchanged opening commits s p span ≡ false
      → (span.from < unwrap_or (last_touch opening commits s p span) 0) × (unwrap_or (last_touch opening commits s p span) 0 ≤ span.to) × (touches_at opening commits s p (unwrap_or (last_touch opening commits s p span) 0) ≡ true)
  touch_named s p span le differs =
      let t = touches_at opening commits s p in
      let back = reverse (numbers_in span) in
      let lying : ℕ → Type 0 = λ k. (span.from < k) × (k ≤ span.from + (span.to - span.from)) in
      elim (last_touch opening commits s p span) as (λ (o : Option ℕ). find t back ≡ o → (span.from < unwrap_or o 0) × (unwrap_or o 0 ≤ span.to) × (t (unwrap_or o 0) ≡ true)) [
        | None ↦ λ e.
            let none : list_any t (numbers_in span) ≡ false = list_any-IsPermutation t (numbers_in span) back (IsPermutation-reverse (numbers_in span)) ∙ find_none t back e in
            let same : is_unchanged opening commits s p span ≡ true = unchanged opening commits s p span le none in
            cc
        | Some k ↦ λ e.
            let found = find_holds t back k e in
            let lies : (span.from < k) × (k ≤ span.from + (span.to - span.from)) =
            All-contains lying back k (All-permutation lying (numbers_in span) back (IsPermutation-reverse (numbers_in span)) (numbers_lie span.from (span.to - span.from))) found.1 in
            (lies.0, omega (arith, lies.1, le), found.0)
      ] refl

  pub at_named : (s : Store) (spans : List Span) (p : List Step) (c : Difference) → All (λ span. span.from ≤ span.to) spans → difference opening commits s spans p ≡ Some c → Any (IsNamedIn opening commits c) spans
  at_named s spans p c ordered =
      let conflict : Span → Difference = λ span. record { store = s; path = p; kind = kind_over opening commits s p span; commit = unwrap_or (last_touch opening commits s p span) 0 } in
      let differs : Span → Bool = λ span. not (is_unchanged opening commits s p span) in
      elim (find differs spans) as (λ (o : Option Span). find differs spans ≡ o → option_map conflict o ≡ Some c → Any (IsNamedIn opening commits c) spans) [
        | None ↦ λ e h. cc
        | Some span ↦ λ e h.
            let found = find_holds differs spans span e in
            let changed = touch_named s p span (All-contains (λ (other : Span). other.from ≤ other.to) spans span ordered found.1) (not_true (is_unchanged opening commits s p span) found.0) in
            (found.1.0, span, found.1.1, found.1.2, subst (λ z. IsNamedIn opening commits z span) (same_Some _ c h) changed)
      ] refl
    where
      not_true : (b : Bool) → not b ≡ true → b ≡ false
      not_true true e = cc
      not_true false e = refl
