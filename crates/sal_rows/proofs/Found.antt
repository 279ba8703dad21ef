-- The result of a binary search among rows in the order of their paths, and the rows with a cell set there.
use Rattle.std.proofs.Common.{◌≡◌, ℕ, zero, suc, ◌+◌, ◌<◌, ◌≤◌, true, List, [], ◌∷◌, length, get_or, set, refl, ap, sym, ◌∙◌, arith, cond}
use Rattle.std.specs.Prelude.{not, Result, Ok, Err}
use Rattle.std.specs.List.{filter, insert, remove}
use Rattle.std.specs.List.Sorted.{IsSortedBy, IsNonDecreasingBy, IsBinarySearchResult}
use Rattle.std.specs.Ordering.{is_lt, is_eq, ordering_reverse, ordering_index, match_ordering}
use Rattle.std.specs.declared.cmp.Ordering.{Ordering}
use Rattle.std.specs.declared.cmp.Ordering.TheVariants.{Less, Equal, Greater}
use Rattle.std.specs.Cmp.{first_so, second_so, tied_back}
use Rattle.std.specs.FinMap.{is_sorted}
use Rattle.std.specs.FinMap.Entries.{below_all}
use Rattle.std.proofs.lemmas.List.Sorted.{searchable_from_sorted}
use Rattle.sal_types.specs.declared.value.Step.{Step}
use Rattle.sal_types.specs.declared.row.Row.{Row}
use Rattle.sal_types.specs.Order.{path_cmp, path_eq, path_cmp-IsTotalOrder, path_cmp-IsAntisymmetric}
use Rattle.sal_types.specs.Tree.{entries, IsAscending}
use Rattle.sal_rows.specs.Edits.{set_row}
use Rattle.sal_rows.specs.Search.{Parted, IsFound}

pub less : (o : Ordering) → is_lt o ≡ true → o ≡ Less
less Less e = refl
less Equal e = cc
less Greater e = cc

-- the order of two paths, from the other side
pub turned : (x y : List Step) → path_cmp x y ≡ Less → path_cmp y x ≡ Greater
turned x y e = path_cmp-IsTotalOrder.antisymm y x ∙ ap ordering_reverse e

pub back : (x y : List Step) → path_cmp x y ≡ Greater → path_cmp y x ≡ Less
back x y e = path_cmp-IsTotalOrder.antisymm y x ∙ ap ordering_reverse e

pub above_each : (p : List Step) (rows : List Row) (i : ℕ) (d : Row) → below_all path_cmp p (entries rows) ≡ true → i < length rows → path_cmp p (get_or rows i d).path ≡ Less
above_each p [] i d below inside = absurd (omega arith)
above_each p (x ∷ rows) zero d below inside = less _ (first_so (is_lt (path_cmp p x.path)) _ below)
above_each p (x ∷ rows) (suc i) d below inside = above_each p rows i d (second_so (is_lt (path_cmp p x.path)) _ below) (omega arith)

-- each row is less than the next
next_rises : (rows : List Row) (k : ℕ) (d : Row) → is_sorted path_cmp (entries rows) ≡ true → suc k < length rows → path_cmp (get_or rows k d).path (get_or rows (suc k) d).path ≡ Less
next_rises [] k d rising inside = absurd (omega arith)
next_rises (x ∷ rows) zero d rising inside = above_each x.path rows 0 d (first_so (below_all path_cmp x.path (entries rows)) _ rising) (omega arith)
next_rises (x ∷ rows) (suc k) d rising inside = next_rises rows k d (second_so (below_all path_cmp x.path (entries rows)) _ rising) (omega arith)

rows_sorted : (rows : List Row) → IsAscending rows → IsSortedBy (λ (a b : Row). is_lt (path_cmp a.path b.path)) rows
rows_sorted rows rising k d low inside =
    let one : suc k ≡ k + 1 = omega arith in
    let up = next_rises rows k d rising (omega arith) in
    let down = turned (get_or rows k d).path (get_or rows (suc k) d).path up in
    ap (λ n. is_lt (path_cmp (get_or rows n d).path (get_or rows k d).path)) (sym one) ∙ ap is_lt down

-- rows rise by their order relative to any path
pub rows_rise : (rows : List Row) (q : List Step) → IsAscending rows → IsNonDecreasingBy (λ (y : Row). ordering_index (path_cmp y.path q)) rows
rows_rise rows q rising = searchable_from_sorted path_cmp-IsTotalOrder (λ (y : Row). y.path) rows q (rows_sorted rows rising)

pub is-found : (rows : List Row) (q : List Step) (r : Result ℕ ℕ) → IsAscending rows → IsBinarySearchResult (λ (y : Row). path_cmp y.path q) rows r → IsFound rows q r
is-found rows q (Ok i) rising is = is
is-found rows q (Err i) rising is = is (rows_rise rows q rising)

later : (x : Row) (rows : List Row) (q : List Step) (i : ℕ) → Parted (x ∷ rows) q (suc i) → Parted rows q i
later x rows q i (before, behind) = (λ k d inside low. before (suc k) d (omega arith) (omega arith), λ k d high inside. behind (suc k) d (omega arith) (omega arith))

-- a row that is written over
pub set-found : (rows : List Row) (row : Row) (i : ℕ) (d : Row) → is_sorted path_cmp (entries rows) ≡ true → i < length rows → path_cmp (get_or rows i d).path row.path ≡ Equal → set rows i row ≡ set_row rows row
set-found [] row i d rising inside same = absurd (omega arith)
set-found (x ∷ rows) row zero d rising inside same = sym (ap (λ o. match_ordering o (row ∷ x ∷ rows) (row ∷ rows) (x ∷ set_row rows row)) (tied_back path_cmp-IsTotalOrder x.path row.path same))
set-found (x ∷ rows) row (suc i) d rising inside same =
    let is : (get_or rows i d).path ≡ row.path = path_cmp-IsAntisymmetric (get_or rows i d).path row.path same in
    let up : path_cmp x.path row.path ≡ Less = ap (path_cmp x.path) (sym is) ∙ above_each x.path rows i d (first_so (below_all path_cmp x.path (entries rows)) _ rising) (omega arith) in
    ap (λ (zs : List Row). x ∷ zs) (set-found rows row i d (second_so (below_all path_cmp x.path (entries rows)) _ rising) (omega arith) same)
    ∙ sym (ap (λ o. match_ordering o (row ∷ x ∷ rows) (row ∷ rows) (x ∷ set_row rows row)) (turned x.path row.path up))

-- a row that is put between others
pub insert-found : (rows : List Row) (row : Row) (i : ℕ) → i ≤ length rows → Parted rows row.path i → insert rows i row ≡ set_row rows row
insert-found [] row zero inside at = refl
insert-found [] row (suc i) inside at = absurd (omega arith)
insert-found (x ∷ rows) row zero inside (before, behind) = sym (ap (λ o. match_ordering o (row ∷ x ∷ rows) (row ∷ rows) (x ∷ set_row rows row)) (back x.path row.path (behind 0 x (omega arith) (omega arith))))
insert-found (x ∷ rows) row (suc i) inside (before, behind) =
    ap (λ (zs : List Row). x ∷ zs) (insert-found rows row i (omega arith) (later x rows row.path i (before, behind)))
    ∙ sym (ap (λ o. match_ordering o (row ∷ x ∷ rows) (row ∷ rows) (x ∷ set_row rows row)) (turned x.path row.path (before 0 x (omega arith) (omega arith))))

other_above : (q : List Step) (rows : List Row) → below_all path_cmp q (entries rows) ≡ true → rows ≡ filter (λ row. not (path_eq q row.path)) rows
other_above q [] below = refl
other_above q (x ∷ rows) below =
    ap (λ (zs : List Row). x ∷ zs) (other_above q rows (second_so (is_lt (path_cmp q x.path)) _ below))
    ∙ sym (ap (λ o. cond (not (is_eq o)) (x ∷ filter (λ row. not (path_eq q row.path)) rows) (filter (λ row. not (path_eq q row.path)) rows)) (less _ (first_so (is_lt (path_cmp q x.path)) _ below)))

-- a row that is taken out
pub remove-found : (rows : List Row) (q : List Step) (i : ℕ) (d : Row) → is_sorted path_cmp (entries rows) ≡ true → i < length rows → path_cmp (get_or rows i d).path q ≡ Equal → remove rows i ≡ filter (λ row. not (path_eq q row.path)) rows
remove-found [] q i d rising inside same = absurd (omega arith)
remove-found (x ∷ rows) q zero d rising inside same =
    let is : x.path ≡ q = path_cmp-IsAntisymmetric x.path q same in
    other_above q rows (ap (λ p. below_all path_cmp p (entries rows)) (sym is) ∙ first_so (below_all path_cmp x.path (entries rows)) _ rising)
    ∙ sym (ap (λ o. cond (not (is_eq o)) (x ∷ filter (λ row. not (path_eq q row.path)) rows) (filter (λ row. not (path_eq q row.path)) rows)) (tied_back path_cmp-IsTotalOrder x.path q same))
remove-found (x ∷ rows) q (suc i) d rising inside same =
    let is : (get_or rows i d).path ≡ q = path_cmp-IsAntisymmetric (get_or rows i d).path q same in
    let up : path_cmp x.path q ≡ Less = ap (path_cmp x.path) (sym is) ∙ above_each x.path rows i d (first_so (below_all path_cmp x.path (entries rows)) _ rising) (omega arith) in
    ap (λ (zs : List Row). x ∷ zs) (remove-found rows q i d (second_so (below_all path_cmp x.path (entries rows)) _ rising) (omega arith) same)
    ∙ sym (ap (λ o. cond (not (is_eq o)) (x ∷ filter (λ row. not (path_eq q row.path)) rows) (filter (λ row. not (path_eq q row.path)) rows)) (turned x.path q up))

-- no row to be taken out
pub none-found : (rows : List Row) (q : List Step) (i : ℕ) → Parted rows q i → rows ≡ filter (λ row. not (path_eq q row.path)) rows
none-found [] q i at = refl
none-found (x ∷ rows) q zero (before, behind) =
    ap (λ (zs : List Row). x ∷ zs) (none-found rows q zero (λ k d inside low. absurd (omega arith), λ k d high inside. behind (suc k) d (omega arith) (omega arith)))
    ∙ sym (ap (λ o. cond (not (is_eq o)) (x ∷ filter (λ row. not (path_eq q row.path)) rows) (filter (λ row. not (path_eq q row.path)) rows)) (back x.path q (behind 0 x (omega arith) (omega arith))))
none-found (x ∷ rows) q (suc i) (before, behind) =
    ap (λ (zs : List Row). x ∷ zs) (none-found rows q i (later x rows q i (before, behind)))
    ∙ sym (ap (λ o. cond (not (is_eq o)) (x ∷ filter (λ row. not (path_eq q row.path)) rows) (filter (λ row. not (path_eq q row.path)) rows)) (turned x.path q (before 0 x (omega arith) (omega arith))))
