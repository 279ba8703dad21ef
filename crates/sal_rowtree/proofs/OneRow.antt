-- The acts that set one row, and that take one out.
use Rattle.std.proofs.Common.{◌≡◌, Bool, true, false, List, [], ◌∷◌, Some, None, refl, ap, sym, ◌∙◌, subst, if◌then◌else◌, cond, append-nil}
use Rattle.std.specs.Prelude.{not}
use Rattle.std.specs.List.{filter}
use Rattle.std.specs.Option.{option_map}
use Rattle.sal_types.specs.declared.value.Step.{Step}
use Rattle.sal_types.specs.declared.value.Cell.{Cell}
use Rattle.sal_types.specs.declared.value.Store.{Store}
use Rattle.sal_types.specs.declared.value.Store.TheVariants.{Config}
use Rattle.sal_types.specs.declared.row.Row.{Row}
use Rattle.sal_types.specs.Order.{path_eq}
use Rattle.sal_types.specs.Prefix.{is_prefix}
use Rattle.sal_types.specs.Tree.{cell, under, IsAscending}
use Rattle.sal_types.proofs.Handy.{same_path}
use Rattle.sal_types.proofs.Prefixes.{is_prefix-append}
use Rattle.sal_types.proofs.Trees.{same_tree}
use Rattle.sal_rows.specs.declared.op.Act.{Act}
use Rattle.sal_rows.specs.declared.op.Act.TheVariants.{Put, Merge}
use Rattle.sal_rows.specs.Apply.{act_setting, apply_ops, cell_by}
use Rattle.sal_rows.specs.Edits.{set_row}
use Rattle.sal_rows.specs.Patch.{with_cell}
use Rattle.sal_rows.proofs.Applied.{IsAscending-apply_ops}
use Rattle.sal_rows.proofs.Cells.{cell-filter, cell-set_row, IsAscending-set_row}
use Rattle.sal_rows.proofs.Patched.{ascending-with_cell, cell-with_cell}
use Rattle.sal_tree.specs.Touched.{one_op}

-- the cells and the rows after an act
abbrev Cells : List Row → List Row → List Step → Act → Type 0
Cells before after p act = (q : List Step) → cell after q ≡ cell_by (act_setting p act q) (cell before q)

abbrev Rows : List Row → List Row → List Step → Act → Type 0
Rows before after p act = (s : Store) → after ≡ apply_ops before s (one_op s p act)

rising : (before after : List Row) (p : List Step) (act : Act) → Rows before after p act → IsAscending after
rising before after p act made = subst IsAscending (sym (made Config)) (IsAscending-apply_ops before Config (one_op Config p act))

-- ---- a merge of one row sets it

module _ (before after : List Row) (p : List Step) (c : Cell) where
  abbrev row : Row
  row = record { path = p; cell = c }

  set_at : (q : List Step) → cell_by (act_setting p (Merge (row ∷ [])) q) (cell before q) ≡ cell (set_row before row) q
  set_at q =
      elim (path_eq q p) as (λ b. cell_by (option_map Some (if b then Some c else None)) (cell before q) ≡ (if b then Some c else cell before q)) [ true ↦ refl | false ↦ refl ]
      ∙ sym (cell-set_row before row q)

  pub merged-row : (rows : List Row) → rows ≡ row ∷ [] → IsAscending before → Cells before after p (Merge rows) → Rows before after p (Merge rows) → after ≡ set_row before row
  merged-row rows is h cells made =
      same_tree after (set_row before row) (rising before after p (Merge rows) made) (IsAscending-set_row before row h) (λ q. subst (λ rs. Cells before after p (Merge rs)) is cells q ∙ set_at q)

pub one-under : (rows : List Row) (row : Row) → rows ≡ row ∷ [] → under rows row.path ≡ rows
one-under rows row is =
    ap (λ rs. under rs row.path) is
    ∙ ap (λ b. if b then row ∷ [] else []) (ap (is_prefix row.path) (sym (append-nil row.path)) ∙ is_prefix-append row.path [])
    ∙ sym is

-- ---- a put of the rows below a path takes out the row at it

kept : (f g : Row → Bool) (xs : List Row) → filter f (filter g (filter f xs)) ≡ filter g (filter f xs)
kept f g [] = refl
kept f g (x ∷ xs) = elim (f x) as (λ b. f x ≡ b → filter f (filter g (cond b (x ∷ filter f xs) (filter f xs))) ≡ filter g (cond b (x ∷ filter f xs) (filter f xs))) [
  | true ↦ λ e. elim (g x) as (λ d. filter f (cond d (x ∷ filter g (filter f xs)) (filter g (filter f xs))) ≡ cond d (x ∷ filter g (filter f xs)) (filter g (filter f xs))) [
    | true ↦ ap (λ d. cond d (x ∷ filter f (filter g (filter f xs))) (filter f (filter g (filter f xs)))) e ∙ ap (λ ys. x ∷ ys) (kept f g xs)
    | false ↦ kept f g xs
  ]
  | false ↦ λ e. kept f g xs
] refl

module _ (before : List Row) (p : List Step) where
  abbrev rest : List Row
  rest = with_cell (under before p) p None

  pub rest-under : (rows : List Row) → rows ≡ rest → under rows p ≡ rows
  rest-under rows is = ap (λ rs. under rs p) is ∙ kept (λ row. is_prefix p row.path) (λ row. not (path_eq p row.path)) before ∙ sym is

  put_at : (q : List Step) → cell_by (act_setting p (Put rest) q) (cell before q) ≡ (if path_eq q p then None else cell before q)
  put_at q = elim (is_prefix p q) as (λ b. is_prefix p q ≡ b → cell_by (if b then Some (cell rest q) else None) (cell before q) ≡ (if path_eq q p then None else cell before q)) [
    | true ↦ λ b.
        cell-with_cell (under before p) p None q
        ∙ ap (λ o. if path_eq q p then None else o) (cell-filter (is_prefix p) before q ∙ ap (λ d. if d then cell before q else None) b)
    | false ↦ λ b. elim (path_eq q p) as (λ e. path_eq q p ≡ e → cell before q ≡ (if e then None else cell before q)) [
      | true ↦ λ e.
          let itself : is_prefix p q ≡ true = ap (is_prefix p) (same_path q p e ∙ sym (append-nil p)) ∙ is_prefix-append p [] in
          cc
      | false ↦ λ e. refl
    ] refl
  ] refl

  pub put-rest : (after rows : List Row) → rows ≡ rest → IsAscending before → Cells before after p (Put rows) → Rows before after p (Put rows) → after ≡ with_cell before p None
  put-rest after rows is h cells made =
      same_tree after (with_cell before p None) (rising before after p (Put rows) made) (ascending-with_cell before p None h) (λ q. subst (λ rs. Cells before after p (Put rs)) is cells q ∙ put_at q ∙ sym (cell-with_cell before p None q))

-- all rows are under the root
pub under-root : (rows : List Row) → under rows [] ≡ rows
under-root [] = refl
under-root (row ∷ rows) = ap (λ rest. row ∷ rest) (under-root rows)
