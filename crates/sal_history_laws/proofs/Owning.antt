-- In a closed tree a path whose kind has an own row has it exactly if there is a row at or below the path.
use Rattle.std.proofs.Common.{◌≡◌, inl, inr, true, false, List, [], ◌∷◌, ◌++◌, Option, Some, None, refl, sym, ap, ◌∙◌, append-nil}
use Rattle.std.specs.Prelude.{is_some}
use Rattle.std.proofs.lemmas.Bool.{and_parts, or_cases, or_left, or_right}
use Rattle.sal_types.specs.declared.value.Cell.{Cell}
use Rattle.sal_types.specs.declared.value.Cell.TheVariants.{Mark, Leaf}
use Rattle.sal_types.specs.declared.value.Step.{Step}
use Rattle.sal_types.specs.declared.value.Step.TheVariants.{Node, Key, Item}
use Rattle.sal_types.specs.declared.value.Value.{Value}
use Rattle.sal_types.specs.declared.row.Row.{Row}
use Rattle.sal_types.specs.Tree.{cell, has}
use Rattle.sal_types.proofs.Prefixes.{IsPrefix-from_test}
use Rattle.sal_schema.specs.declared.table.SchemaTable.{SchemaTable}
use Rattle.sal_schema.specs.Fitting.{cell_fits, has_mark, has_own_row, has_value, is_at_leaf}
use Rattle.sal_schema.specs.Kinds.{is_leaf}
use Rattle.sal_schema.specs.Paths.{fits_path, last_step}
use Rattle.sal_schema.specs.Table.{is_kind}
use Rattle.sal_schema.specs.Valid.{IsTable}
use Rattle.sal_schema.specs.Values.{is_of_node}
use Rattle.sal_history_laws.specs.Laws.{OwnRowsStand}
use Rattle.sal_history_laws.proofs.Leafs.{leaf_ends}
use Rattle.sal_history_laws.proofs.Standing.{stands_below}
use Rattle.sal_history_laws.proofs.Wholes.{AllFit, fits-AllFit, whole-row}

-- only leafs have values
value-leaf : (table : SchemaTable) (o : Option Step) (value : Value) → has_value table o value ≡ true → is_at_leaf table o ≡ true
value-leaf table None value e = cc
value-leaf table (Some (Node n)) value e = (and_parts (is_kind is_leaf table n) (is_of_node table n value) e).0
value-leaf table (Some (Key values)) value e = cc
value-leaf table (Some (Item item)) value e = cc

-- a cell that fits is at a path that may have one
cell-own : (table : SchemaTable) (r : List Step) (c : Cell) → cell_fits table r c ≡ true → has_own_row table r ≡ true
cell-own table r Mark e = or_left (has_mark table (last_step r)) (is_at_leaf table (last_step r)) e
cell-own table r (Leaf value) e = or_right (has_mark table (last_step r)) (is_at_leaf table (last_step r)) (value-leaf table (last_step r) value e)

module _ (table : SchemaTable) (good : IsTable table) (tree : List Row) (closed : AllFit table [] tree) (r : List Step) (there : has tree r ≡ true) where
  own_there : has_own_row table r ≡ true → is_some (cell tree r) ≡ true
  own_there own =
      let (x, c, below, at) = stands_below tree r there in
      elim (or_cases (has_mark table (last_step r)) (is_at_leaf table (last_step r)) own) [
        | inl marked ↦ whole-row table tree r marked ((closed x c at).whole r below refl)
        | inr leaf ↦ let (rest, is) = IsPrefix-from_test r x below in by rest x c is at leaf
      ]
    where
      by : (rest x : List Step) (c : Cell) → x ≡ r ++ rest → cell tree x ≡ Some c → is_at_leaf table (last_step r) ≡ true → is_some (cell tree r) ≡ true
      by [] x c is at leaf = ap (λ y. is_some (cell tree y)) (sym (is ∙ append-nil r)) ∙ ap is_some at
      by (s ∷ rest) x c is at leaf = absurd (leaf_ends table good r s rest leaf (ap (fits_path table) (sym is) ∙ (closed x c at).path))

  own_alone : (o : Option Cell) → cell tree r ≡ o → is_some o ≡ has_own_row table r
  own_alone (Some c) at = sym (cell-own table r c (closed r c at).kind)
  own_alone None at =
      elim (has_own_row table r) as (λ b. has_own_row table r ≡ b → false ≡ b) [
        | true ↦ λ own. ap is_some (sym at) ∙ own_there own
        | false ↦ λ none. refl
      ] refl

pub own_rows_stand : OwnRowsStand
own_rows_stand table tree r good closed there = own_alone table good tree (fits-AllFit table [] tree closed) r there (cell tree r) refl
