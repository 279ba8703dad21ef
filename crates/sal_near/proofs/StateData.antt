-- The state data after patches.
use Rattle.std.proofs.Common.{◌≡◌, Bool, true, false, ◌&&◌, List, [], ◌∷◌, Some, None, if◌then◌else◌, refl, ap, sym, ◌∙◌}
use Rattle.std.proofs.lemmas.Bool.{or_right}
use Rattle.std.specs.Prelude.{◌||◌, is_some}
use Rattle.std.specs.List.{list_any}
use Rattle.sal_types.specs.declared.value.Cell.{Cell}
use Rattle.sal_types.specs.declared.value.Step.{Step}
use Rattle.sal_types.specs.declared.row.Row.{Row}
use Rattle.sal_types.specs.Order.{path_eq}
use Rattle.sal_types.specs.Tree.{cell}
use Rattle.sal_rows.specs.declared.rows.patch.Patch.{Patch}
use Rattle.sal_rows.specs.Patch.{patched}
use Rattle.sal_rows.proofs.Cells.{same_path, path_eq-itself}
use Rattle.sal_rows.proofs.Untouched.{no_cell}
use Rattle.sal_schema.specs.declared.table.SchemaTable.{SchemaTable}
use Rattle.sal_schema.specs.Fitting.{is_of_state}
use Rattle.sal_near.specs.Near.{has_state, leaves_state, leave_state}
use Rattle.sal_near.proofs.Nearby.{at_one, not-patched}

-- a row with a property of its path has a cell
any_cell : (t : List Step → Bool) (rows : List Row) → list_any (λ row. t row.path) rows ≡ true → (r : List Step) × (c : Cell) × (t r ≡ true) × (cell rows r ≡ Some c)
any_cell t [] e = cc
any_cell t (x ∷ rows) e =
    elim (t x.path) as (λ b. t x.path ≡ b → (b || list_any (λ row. t row.path) rows) ≡ true → (r : List Step) × (c : Cell) × (t r ≡ true) × (cell (x ∷ rows) r ≡ Some c)) [
      | true ↦ λ is h. (x.path, x.cell, is, ap (λ b. if b then Some x.cell else cell rows x.path) (path_eq-itself x.path))
      | false ↦ λ is h. let (r, c, holds, f) = any_cell t rows h in by r c holds f
    ] refl e
  where
    by : (r : List Step) (c : Cell) → t r ≡ true → cell rows r ≡ Some c → (s : List Step) × (d : Cell) × (t s ≡ true) × ((if path_eq s x.path then Some x.cell else cell rows s) ≡ Some d)
    by r c holds f =
        elim (path_eq r x.path) as (λ b. path_eq r x.path ≡ b → (s : List Step) × (d : Cell) × (t s ≡ true) × ((if path_eq s x.path then Some x.cell else cell rows s) ≡ Some d)) [
          | true ↦ λ is. (r, x.cell, holds, ap (λ b. if b then Some x.cell else cell rows r) is)
          | false ↦ λ is. (r, c, holds, ap (λ b. if b then Some x.cell else cell rows r) is ∙ f)
        ] refl

-- a cell of a state node that one of the patches is at
left-some : (table : SchemaTable) (rows : List Row) (ps : List Patch) (r : List Step) (c : Cell) → at_one r ps ≡ true → is_of_state table r ≡ true → cell rows r ≡ Some c → leave_state table rows ps ≡ true
left-some table rows [] r c at state e = cc
left-some table rows (p ∷ ps) r c at state e =
    elim (path_eq r p.path) as (λ b. path_eq r p.path ≡ b → (b || at_one r ps) ≡ true → leave_state table rows (p ∷ ps) ≡ true) [
      | true ↦ λ is f.
          let same = same_path r p.path is in
          let here : leaves_state table rows p ≡ true = sym (ap (λ x. is_of_state table x && is_some (cell rows x)) same) ∙ ap (λ b. b && is_some (cell rows r)) state ∙ ap is_some e in
          ap (λ b. b || leave_state table rows ps) here
      | false ↦ λ is f. or_right (leaves_state table rows p) (leave_state table rows ps) (left-some table rows ps r c f state e)
    ] refl at

-- what a patch left is there
some-left : (table : SchemaTable) (rows : List Row) (ps : List Patch) → has_state table rows ≡ false → leave_state table rows ps ≡ false
some-left table rows [] none = refl
some-left table rows (p ∷ ps) none =
    elim (is_of_state table p.path) as (λ b. is_of_state table p.path ≡ b → ((b && is_some (cell rows p.path)) || leave_state table rows ps) ≡ false) [
      | true ↦ λ is. ap (λ o. is_some {T = Cell} o || leave_state table rows ps) (no_cell (is_of_state table) rows p.path none is) ∙ some-left table rows ps none
      | false ↦ λ is. some-left table rows ps none
    ] refl

pub state-near : (table : SchemaTable) (before : List Row) (ps : List Patch) → has_state table before ≡ false → has_state table (patched before ps) ≡ leave_state table (patched before ps) ps
state-near table before ps none =
    elim (has_state table (patched before ps)) as (λ b. has_state table (patched before ps) ≡ b → b ≡ leave_state table (patched before ps) ps) [
      | true ↦ λ is. let (r, c, state, e) = any_cell (is_of_state table) (patched before ps) is in by r c state e
      | false ↦ λ is. sym (some-left table (patched before ps) ps is)
    ] refl
  where
    by : (r : List Step) (c : Cell) → is_of_state table r ≡ true → cell (patched before ps) r ≡ Some c → true ≡ leave_state table (patched before ps) ps
    by r c state e =
        elim (at_one r ps) as (λ b. at_one r ps ≡ b → true ≡ leave_state table (patched before ps) ps) [
          | true ↦ λ at. sym (left-some table (patched before ps) ps r c at state e)
          | false ↦ λ at.
              let was : cell before r ≡ Some c = sym (not-patched ps before r at) ∙ e in
              let gone : cell before r ≡ None = no_cell (is_of_state table) before r none state in
              cc
        ] refl
