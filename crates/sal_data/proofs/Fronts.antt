-- Prefixes of paths, and the rows of a tree by their paths.
use Rattle.std.proofs.Common.{◌≡◌, inl, inr, ℕ, suc, ◌+◌, true, false, List, [], ◌∷◌, ◌++◌, append_assoc, length, Some, if◌then◌else◌, refl, sym, ap, ◌∙◌, arith}
use Rattle.std.specs.FinMap.{is_sorted}
use Rattle.std.specs.FinMap.Entries.{below_all}
use Rattle.std.specs.List.{slice_get}
use Rattle.std.specs.Ordering.{is_lt, ordering_then}
use Rattle.std.specs.declared.cmp.Ordering.{Ordering}
use Rattle.std.specs.declared.cmp.Ordering.TheVariants.{Less, Equal}
use Rattle.std.specs.Cmp.{tied_itself}
use Rattle.std.proofs.lemmas.Bool.{and_parts}
use Rattle.sal_types.specs.declared.value.Cell.{Cell}
use Rattle.sal_types.specs.declared.value.Step.{Step}
use Rattle.sal_types.specs.declared.row.Row.{Row}
use Rattle.sal_types.specs.Order.{path_cmp, path_cmp-IsTotalOrder, path_eq, step_cmp-IsTotalOrder}
use Rattle.sal_types.specs.Prefix.{is_prefix}
use Rattle.sal_types.proofs.Prefixes.{IsPrefix-from_test, is_prefix-append}
use Rattle.sal_types.specs.Tree.{cell, entries, IsAscending}
use Rattle.sal_rows.proofs.Cells.{same_path, path_eq-itself}
pub use Rattle.sal_rows.proofs.Found.{less}
use Rattle.sal_data.proofs.Listed.{In}

-- ---- after a prefix

pub slice_get-behind : {X : Type 0} (p q : List X) → slice_get (p ++ q) (length p) ≡ slice_get q 0
slice_get-behind [] q = refl
slice_get-behind (x ∷ p) q = slice_get-behind p q

one_more : (a b c : ℕ) → a ≡ b + 1 → suc a ≡ suc b + 1
one_more a b c e = omega arith

pub length-more : {X : Type 0} (xs : List X) (x : X) → length (xs ++ x ∷ []) ≡ length xs + 1
length-more [] x = refl
length-more (y ∷ xs) x = one_more (length (xs ++ x ∷ [])) (length xs) 0 (length-more xs x)

-- what two paths after one front are to each other
abbrev tied_first : Ordering → List Step → List Step → Ordering
tied_first o p q = ordering_then o (path_cmp p q)

pub path_cmp-behind : (p q r : List Step) → path_cmp (p ++ q) (p ++ r) ≡ path_cmp q r
path_cmp-behind [] q r = refl
path_cmp-behind (s ∷ p) q r = ap (λ o. tied_first o (p ++ q) (p ++ r)) (tied_itself step_cmp-IsTotalOrder s) ∙ path_cmp-behind p q r

-- a prefix is one of the path with a step more
pub longer_prefix : (a b : List Step) (s : Step) → is_prefix a b ≡ true → is_prefix a (b ++ s ∷ []) ≡ true
longer_prefix a b s h =
    let (r, is) = IsPrefix-from_test a b h in
    ap (λ x. is_prefix a (x ++ s ∷ [])) is ∙ ap (is_prefix a) (append_assoc a r (s ∷ [])) ∙ is_prefix-append a (r ++ s ∷ [])

-- ---- rows that rise

-- each row is before all that follow
abbrev pub Rises : List Row → Type 0
Rises [] = Unit {0}
Rises (x ∷ rows) = ((r : Row) → In r rows → path_cmp x.path r.path ≡ Less) × Rises rows

before-all : (p : List Step) (rows : List Row) (r : Row) → below_all path_cmp p (entries rows) ≡ true → In r rows → path_cmp p r.path ≡ Less
before-all p [] r h there = absurd there
before-all p (x ∷ rows) r h (inl e) = ap (λ (y : Row). path_cmp p y.path) e ∙ less (path_cmp p x.path) (and_parts (is_lt (path_cmp p x.path)) (below_all path_cmp p (entries rows)) h).0
before-all p (x ∷ rows) r h (inr there) = before-all p rows r (and_parts (is_lt (path_cmp p x.path)) (below_all path_cmp p (entries rows)) h).1 there

pub rises : (rows : List Row) → IsAscending rows → Rises rows
rises [] h = tt
rises (x ∷ rows) h =
    let (first, rest) = and_parts (below_all path_cmp x.path (entries rows)) (is_sorted path_cmp (entries rows)) h in
    (λ r there. before-all x.path rows r first there, rises rows rest)

-- ---- cells and rows

pub In-cell : (rows : List Row) (p : List Step) (c : Cell) → cell rows p ≡ Some c → In (record { path = p; cell = c }) rows
In-cell [] p c e = cc
In-cell (x ∷ rows) p c e = elim (path_eq p x.path) as (λ b. path_eq p x.path ≡ b → (if b then Some x.cell else cell rows p) ≡ Some c → In (record { path = p; cell = c }) (x ∷ rows)) [
  | true ↦ λ is e. let at : p ≡ x.path = same_path p x.path is in let same : c ≡ x.cell = cc in inl (λ i. record { path = at i; cell = same i })
  | false ↦ λ is e. inr (In-cell rows p c e)
] refl e

-- in a tree each row is the one at its path
pub cell-In : (rows : List Row) (row : Row) → Rises rows → In row rows → cell rows row.path ≡ Some row.cell
cell-In [] row h there = absurd there
cell-In (x ∷ rows) row h (inl e) =
    ap (λ (r : Row). cell (x ∷ rows) r.path) e ∙ ap (λ b. if b then Some x.cell else cell rows x.path) (path_eq-itself x.path) ∙ ap (λ (r : Row). Some r.cell) (sym e)
cell-In (x ∷ rows) row (first, rest) (inr there) =
    elim (path_eq row.path x.path) as (λ b. path_eq row.path x.path ≡ b → (if b then Some x.cell else cell rows row.path) ≡ Some row.cell) [
      | true ↦ λ is. absurd (apart row.path (first row there) (same_path row.path x.path is))
      | false ↦ λ is. cell-In rows row rest there
    ] refl
  where
    apart : (p : List Step) → path_cmp x.path p ≡ Less → p ≡ x.path → ⊥
    apart p e same = let tied : path_cmp x.path x.path ≡ Equal = tied_itself path_cmp-IsTotalOrder x.path in let lt : path_cmp x.path x.path ≡ Less = ap (path_cmp x.path) (sym same) ∙ e in cc
