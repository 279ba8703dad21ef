-- What a search by halves finds among rows in the order of their paths.
use Rattle.std.proofs.Common.{◌≡◌, ℕ, zero, suc, ◌<◌, true, false, List, [], ◌∷◌, length, get_or, Some, None, refl, ap, sym, ◌∙◌, arith, inl, inr}
use Rattle.std.specs.Prelude.{if◌then◌else◌}
use Rattle.std.specs.List.Sorted.{IsPartitionPoint}
use Rattle.std.specs.Ordering.{is_eq}
use Rattle.std.specs.declared.cmp.Ordering.TheVariants.{Less, Equal, Greater}
use Rattle.std.specs.Cmp.{first_so, second_so, tied_back}
use Rattle.std.specs.FinMap.{is_sorted}
use Rattle.std.specs.FinMap.Entries.{below_all}
use Rattle.std.proofs.lemmas.Bool.{cases_lt}
use Rattle.sal_types.specs.declared.value.Step.{Step}
use Rattle.sal_types.specs.declared.row.Row.{Row}
use Rattle.sal_types.specs.Order.{path_cmp, path_eq, path_cmp-IsTotalOrder, path_cmp-IsAntisymmetric}
use Rattle.sal_types.specs.Tree.{entries, cell}
use Rattle.sal_rows.proofs.Found.{turned, back, above_each}

apart_cell : (rows : List Row) (q : List Step) → ((k : ℕ) (d : Row) → k < length rows → path_eq q (get_or rows k d).path ≡ false) → cell rows q ≡ None
apart_cell [] q apart = refl
apart_cell (x ∷ rows) q apart =
    let here : path_eq q x.path ≡ false = apart 0 x (omega arith) in
    ap (λ b. if b then Some x.cell else cell rows q) here ∙ apart_cell rows q (λ k d inside. apart (suc k) d (omega arith))

-- if some are before a path and the others after it, none has it
pub none_found : (rows : List Row) (q : List Step) (i : ℕ)
    → IsPartitionPoint (λ (y : Row). path_cmp y.path q ≡ Less) (λ (y : Row). path_cmp y.path q ≡ Greater) rows i
    → cell rows q ≡ None
none_found rows q i (before, behind) = apart_cell rows q at
  where
    at : (k : ℕ) (d : Row) → k < length rows → path_eq q (get_or rows k d).path ≡ false
    at k d inside = elim (cases_lt k i) [ inl below ↦ ap is_eq (turned _ q (before k d (omega arith) below)) | inr above ↦ ap is_eq (back _ q (behind k d above inside)) ]

-- the row at a place that has the path gives its cell
pub cell_here : (rows : List Row) (q : List Step) (i : ℕ) (d : Row) → is_sorted path_cmp (entries rows) ≡ true → i < length rows → path_cmp (get_or rows i d).path q ≡ Equal → cell rows q ≡ Some (get_or rows i d).cell
cell_here [] q i d rising inside same = absurd (omega arith)
cell_here (x ∷ rows) q zero d rising inside same = ap (λ o. if is_eq o then Some x.cell else cell rows q) (tied_back path_cmp-IsTotalOrder x.path q same)
cell_here (x ∷ rows) q (suc i) d rising inside same =
    let is : (get_or rows i d).path ≡ q = path_cmp-IsAntisymmetric (get_or rows i d).path q same in
    let up = above_each x.path rows i d (first_so (below_all path_cmp x.path (entries rows)) _ rising) (omega arith) in
    let up' : path_cmp x.path q ≡ Less = ap (path_cmp x.path) (sym is) ∙ up in
    ap (λ o. if is_eq o then Some x.cell else cell rows q) (turned x.path q up') ∙ cell_here rows q i d (second_so (below_all path_cmp x.path (entries rows)) _ rising) (omega arith) same
