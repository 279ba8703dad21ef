-- Under version rules 2 merges conflict by values alone.
use Rattle.std.proofs.Common.{◌≡◌, ℕ, ◌+◌, Bool, true, false, List, [], ◌∷◌, ◌&&◌, take, Option, None, Some, refl, ap, sym, ◌∙◌, cond, if◌then◌else◌}
use Rattle.std.specs.Prelude.{is_some, not}
use Rattle.std.specs.List.{position_from}
use Rattle.std.specs.Option.{option_map}
use Rattle.std.specs.Ordering.{is_eq}
use Rattle.std.specs.Cmp.{tied_itself}
use Rattle.sal_types.specs.contracts.value.CellOrd.TheImpl.Laws as cell_ord_laws
use Rattle.sal_types.specs.declared.value.Cell.{Cell}
use Rattle.sal_types.specs.declared.value.Store.{Store}
use Rattle.sal_types.specs.declared.row.Row.{Row}
use Rattle.sal_types.specs.Tree.{cell}
use Rattle.sal_rows.specs.declared.clash.Rules.TheVariants.{Two}
use Rattle.sal_rows.specs.declared.clash.Span.{Span}
use Rattle.sal_rows.specs.declared.op.Op.{Op}
use Rattle.sal_rows.specs.Apply.{rows_of_act}
use Rattle.sal_rows.specs.Changes.{same_cell}
use Rattle.sal_rows.specs.Clash.{at_row, checks_leafs, is_leaf, is_stale, last_touch_over, leaf_clash, tip}
use Rattle.sal_rows.specs.PathClash.{is_covered}
use Rattle.sal_rows.specs.Spans.{spans}
use Rattle.sal_rows.proofs.Quiet.{same_or_touched}
use Rattle.sal_history.specs.History.{history, outcomes, sents}
use Rattle.sal_history.specs.Submissions.{done_chains, done_ops}
use Rattle.sal_history.specs.World.{opening_of}
use Rattle.sal_isolation_laws.specs.IsolationLaws.{MergesConflictByValue, differs}
use Rattle.sal_isolation_laws.proofs.Parted.{IsParted, based_on, parted}

-- tests with equal answers find the same place
same_position : {X : Type 0} (f g : X → Bool) → ((x : X) → f x ≡ g x) → (n : ℕ) (xs : List X) → position_from f n xs ≡ position_from g n xs
same_position f g same n [] = refl
same_position f g same n (x ∷ xs) = (λ i. cond (same x i) (Some n) (same_position f g same (n + 1) xs i))

module _ (opening : Store → List Row) (cs : List (List Op)) (base : Store → List Row) (pieces : List Span) (are : IsParted opening cs base pieces) where
  -- where the cells differ, a commit in the spans touched the path
  touched_or_same : (s : Store) (row : Row) → (not (same_cell (cell (base s) row.path) (cell (tip opening cs s) row.path)) && is_some (last_touch_over opening cs pieces s row.path))
      ≡ not (same_cell (cell (base s) row.path) (cell (tip opening cs s) row.path))
  touched_or_same s row =
      elim (last_touch_over opening cs pieces s row.path) as (λ (o : Option ℕ). last_touch_over opening cs pieces s row.path ≡ o
      → (not (same_cell (cell (base s) row.path) (cell (tip opening cs s) row.path)) && is_some o) ≡ not (same_cell (cell (base s) row.path) (cell (tip opening cs s) row.path))) [
        | None ↦ λ e.
            let none : last_touch_over opening cs (are.head ∷ are.tail) s row.path ≡ None = ap (λ (l : List Span). last_touch_over opening cs l s row.path) (sym are.parts) ∙ e in
            let same = same_or_touched opening cs base are.head are.tail s row.path are.spanned are.is_base none in
            let alike : same_cell (cell (base s) row.path) (cell (tip opening cs s) row.path) ≡ true = ap (same_cell (cell (base s) row.path)) (sym same) ∙ itself (cell (base s) row.path) in
            ap (λ b. not b && false) alike ∙ ap not (sym alike)
        | Some k ↦ λ e. whole (not (same_cell (cell (base s) row.path) (cell (tip opening cs s) row.path)))
      ] refl
    where
      whole : (b : Bool) → (b && true) ≡ b
      whole true = refl
      whole false = refl

      itself : (c : Option Cell) → same_cell c c ≡ true
      itself None = refl
      itself (Some x) = ap is_eq (tied_itself cell_ord_laws.total-law x)

  stale_differs : (s : Store) (row : Row) → is_stale opening cs base pieces s row ≡ differs base (tip opening cs) s row
  stale_differs s row = ap (λ b. is_leaf row.cell && b) (touched_or_same s row)

  leafs_by_value : (earlier : List Op) (op : Op) → leaf_clash opening cs Two base pieces earlier op
      ≡ (if checks_leafs Two op.act && not (is_covered earlier op.store op.path)
      then option_map (at_row opening cs base pieces earlier op) (position_from (differs base (tip opening cs) op.store) 0 (rows_of_act op.act))
      else None)
  leafs_by_value earlier op =
      ap (λ (o : Option ℕ). if checks_leafs Two op.act && not (is_covered earlier op.store op.path) then option_map (at_row opening cs base pieces earlier op) o else None)
      (same_position (is_stale opening cs base pieces op.store) (differs base (tip opening cs) op.store) (stale_differs op.store) 0 (rows_of_act op.act))

pub merges_conflict_by_value : MergesConflictByValue
merges_conflict_by_value world log i t earlier op at decided begun unfailed =
    let ss = sents (history world log) in
    let before = take i (outcomes (history world log)) in
    leafs_by_value (opening_of world t.base.domain) (done_ops t.base.domain ss before) t.base.trees (spans t.base.commit t.base.chain (done_chains t.base.domain ss before))
    (parted world ss before t.base (based_on world log i t at decided begun unfailed)) earlier op
