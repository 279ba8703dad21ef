-- Parts of a list of rows that rises.
use Rattle.std.proofs.Common.{◌≡◌, ℕ, suc, zero, ◌≤◌, Bool, true, false, List, [], ◌∷◌, ◌&&◌, length, take, drop, refl, ap, if◌then◌else◌, arith}
use Rattle.std.specs.Prelude.{T}
use Rattle.std.specs.List.{filter, list_all}
use Rattle.std.specs.Ordering.{is_lt}
use Rattle.std.specs.FinMap.{is_sorted}
use Rattle.std.specs.FinMap.Entries.{below_all}
use Rattle.sal_types.specs.declared.value.Step.{Step}
use Rattle.sal_types.specs.declared.row.Row.{Row}
use Rattle.sal_types.specs.Order.{path_cmp}
use Rattle.sal_types.specs.Tree.{entries, IsAscending}
use Rattle.sal_types.proofs.Trees.{IsTrue-from_T, T-from_IsTrue}
use Rattle.sal_node.proofs.Entries.{first, second, both}
pub use Rattle.sal_rows.proofs.Differing.{Rising, Behind}

pub behind-first : (row : Row) (rows : List Row) → Rising (row ∷ rows) → Behind row.path rows
behind-first row rows h = first _ (is_sorted path_cmp (entries rows)) h

pub rising-rest : (row : Row) (rows : List Row) → Rising (row ∷ rows) → Rising rows
rising-rest row rows h = second (below_all path_cmp row.path (entries rows)) _ h

pub behind-rest : (p : List Step) (row : Row) (rows : List Row) → Behind p (row ∷ rows) → Behind p rows
behind-rest p row rows h = second (is_lt (path_cmp p row.path)) _ h

behind-take : (p : List Step) (n : ℕ) (rows : List Row) → Behind p rows → Behind p (take n rows)
behind-take p zero rows h = tt
behind-take p (suc n) [] h = tt
behind-take p (suc n) (row ∷ rows) h = both _ _ (first _ _ h) (behind-take p n rows (behind-rest p row rows h))

pub rising-take : (n : ℕ) (rows : List Row) → Rising rows → Rising (take n rows)
rising-take zero rows h = tt
rising-take (suc n) [] h = tt
rising-take (suc n) (row ∷ rows) h = both _ _ (behind-take row.path n rows (behind-first row rows h)) (rising-take n rows (rising-rest row rows h))

pub rising-drop : (n : ℕ) (rows : List Row) → Rising rows → Rising (drop n rows)
rising-drop zero rows h = h
rising-drop (suc n) [] h = tt
rising-drop (suc n) (row ∷ rows) h = rising-drop n rows (rising-rest row rows h)

pub ascending-take : (n : ℕ) (rows : List Row) → IsAscending rows → IsAscending (take n rows)
ascending-take n rows h = IsTrue-from_T _ (rising-take n rows (T-from_IsTrue _ h))

-- all rows pass a test where those that pass are all rows
filter-length : (f : Row → Bool) (rows : List Row) → length (filter f rows) ≤ length rows
filter-length f [] = omega arith
filter-length f (row ∷ rows) = let h = filter-length f rows in elim (f row) as (λ b. length (if b then row ∷ filter f rows else filter f rows) ≤ suc (length rows)) [ true ↦ omega arith | false ↦ omega arith ]

pub filter-all : (f : Row → Bool) (rows : List Row) → list_all f rows ≡ true → filter f rows ≡ rows
filter-all f [] = λ h. refl
filter-all f (row ∷ rows) = elim (f row) as (λ b. (b && list_all f rows) ≡ true → (if b then row ∷ filter f rows else filter f rows) ≡ row ∷ rows) [
  | true ↦ λ h. ap (λ (l : List Row). row ∷ l) (filter-all f rows h)
  | false ↦ λ h. cc
]

pub all-filter : (f : Row → Bool) (rows : List Row) → filter f rows ≡ rows → list_all f rows ≡ true
all-filter f [] = λ h. refl
all-filter f (row ∷ rows) = elim (f row) as (λ b. (if b then row ∷ filter f rows else filter f rows) ≡ row ∷ rows → (b && list_all f rows) ≡ true) [
  | true ↦ λ h. all-filter f rows (ap rest_of h)
  | false ↦ λ h. absurd (omega (arith, filter-length f rows, ap length h))
]
  where
    rest_of : List Row → List Row
    rest_of [] = []
    rest_of (r ∷ rs) = rs
