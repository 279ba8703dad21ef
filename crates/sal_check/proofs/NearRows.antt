-- A rule depends only on the rows below the place at which it is judged.
use Rattle.std.proofs.Common.{◌≡◌, ℕ, true, false, List, [], ◌∷◌, ◌++◌, ◌&&◌, ◌||◌, Option, Some, refl, ap, sym, ◌∙◌, cond, if◌then◌else◌, append_assoc, map, length}
use Rattle.std.specs.List.{list_any, flat_map}
use Rattle.std.specs.Option.{option_to_list}
use Rattle.std.specs.Cmp.{Equal-is}
use Rattle.std.specs.Ordering.{eq_by_cmp}
use Rattle.sal_types.specs.declared.value.Step.{Step}
use Rattle.sal_types.specs.declared.value.Step.TheVariants.{Node}
use Rattle.sal_types.specs.declared.value.Cell.{Cell}
use Rattle.sal_types.specs.declared.row.Row.{Row}
use Rattle.sal_types.specs.Order.{step_cmp, path_eq, path_cmp-IsAntisymmetric}
use Rattle.sal_types.specs.Prefix.{is_prefix}
use Rattle.sal_types.specs.Tree.{cell, has, under}
use Rattle.sal_types.proofs.Prefixes.{is_prefix-append}
use Rattle.sal_schema.specs.declared.table.SchemaTable.{SchemaTable}
use Rattle.sal_schema.specs.Kinds.{is_list, has_entries}
use Rattle.sal_schema.specs.Table.{is_kind, is_same, data_parent, max_elements, uniques_of}
use Rattle.sal_rows.specs.declared.outcome.Rule.TheVariants.{MaxElements, Unique}
use Rattle.sal_rules.specs.Contexts.{way_in_entry}
use Rattle.sal_check.specs.Near.{BreaksNearAChange, TooManyNearAChange, RepeatsNearAChange}
use Rattle.sal_rules.specs.Rules.{broken, is_past, has_double, cells_at}
use Rattle.sal_rules.specs.Seen.{Seen, seen_from, further, entries, step_past}

-- ---- paths below a place

no_prefix : (p q r : List Step) → is_prefix p r ≡ false → is_prefix (p ++ q) r ≡ false
no_prefix [] q r e = cc
no_prefix (s ∷ p) q [] e = refl
no_prefix (s ∷ p) q (t ∷ r) e = elim (eq_by_cmp step_cmp s t) as (λ b. (b && is_prefix p r) ≡ false → (b && is_prefix (p ++ q) r) ≡ false) [ true ↦ λ f. no_prefix p q r f | false ↦ λ f. refl ] e

no_step : (p q r : List Step) → is_prefix p r ≡ false → step_past (p ++ q) r ≡ []
no_step [] q r e = cc
no_step (s ∷ p) q [] e = refl
no_step (s ∷ p) q (t ∷ r) e = elim (eq_by_cmp step_cmp s t) as (λ b. (b && is_prefix p r) ≡ false → (if b then step_past (p ++ q) r else []) ≡ []) [ true ↦ λ f. no_step p q r f | false ↦ λ f. refl ] e

other_path : (p q r : List Step) → is_prefix p r ≡ false → path_eq (p ++ q) r ≡ false
other_path p q r e = elim (path_eq (p ++ q) r) as (λ b. path_eq (p ++ q) r ≡ b → b ≡ false) [
  | true ↦ λ f.
      let same : p ++ q ≡ r = path_cmp-IsAntisymmetric (p ++ q) r ((Equal-is _).0 f) in
      let is : is_prefix p r ≡ true = sym (ap (is_prefix p) same) ∙ is_prefix-append p q in
      sym is ∙ e
  | false ↦ λ f. refl
] refl

-- ---- the children of a place

has-under : (rows : List Row) (p q : List Step) → has rows (p ++ q) ≡ has (under rows p) (p ++ q)
has-under [] p q = refl
has-under (row ∷ rows) p q = elim (is_prefix p row.path) as (λ b. is_prefix p row.path ≡ b → (is_prefix (p ++ q) row.path || has rows (p ++ q)) ≡ has (cond b (row ∷ under rows p) (under rows p)) (p ++ q)) [
  | true ↦ λ e. ap (λ b. is_prefix (p ++ q) row.path || b) (has-under rows p q)
  | false ↦ λ e. ap (λ b. b || has rows (p ++ q)) (no_prefix p q row.path e) ∙ has-under rows p q
] refl

cell-under : (rows : List Row) (p q : List Step) → cell rows (p ++ q) ≡ cell (under rows p) (p ++ q)
cell-under [] p q = refl
cell-under (row ∷ rows) p q = elim (is_prefix p row.path) as (λ b. is_prefix p row.path ≡ b → (if path_eq (p ++ q) row.path then Some row.cell else cell rows (p ++ q)) ≡ cell (cond b (row ∷ under rows p) (under rows p)) (p ++ q)) [
  | true ↦ λ e. ap (λ (c : Option Cell). if path_eq (p ++ q) row.path then Some row.cell else c) (cell-under rows p q)
  | false ↦ λ e. ap (λ b. if b then Some row.cell else cell rows (p ++ q)) (other_path p q row.path e) ∙ cell-under rows p q
] refl

entries-under : (rows : List Row) (p q : List Step) → entries rows (p ++ q) ≡ entries (under rows p) (p ++ q)
entries-under [] p q = refl
entries-under (row ∷ rows) p q = elim (is_prefix p row.path) as (λ b. is_prefix p row.path ≡ b → (step_past (p ++ q) row.path ++ entries rows (p ++ q)) ≡ entries (cond b (row ∷ under rows p) (under rows p)) (p ++ q)) [
  | true ↦ λ e. ap (λ (l : List Step). step_past (p ++ q) row.path ++ l) (entries-under rows p q)
  | false ↦ λ e. ap (λ (l : List Step). l ++ entries rows (p ++ q)) (no_step p q row.path e) ∙ entries-under rows p q
] refl

-- what is seen from a place is what is below it
pub seen-under : (rows : List Row) (place : List Step) → seen_from rows place ≡ seen_from (under rows place) place
seen-under rows place = λ i. record { has = λ p. has-under rows place p i; cell = λ p. cell-under rows place p i; entries = λ p. entries-under rows place p i }

pub seen-same : (before after : List Row) (place : List Step) → under before place ≡ under after place → seen_from before place ≡ seen_from after place
seen-same before after place e = seen-under before place ∙ ap (λ rows. seen_from rows place) e ∙ sym (seen-under after place)

further-from : (rows : List Row) (place steps : List Step) → further (seen_from rows place) steps ≡ seen_from rows (place ++ steps)
further-from rows place steps = λ i. record { has = λ p. has rows (sym (append_assoc place steps p) i); cell = λ p. cell rows (sym (append_assoc place steps p) i); entries = λ p. entries rows (sym (append_assoc place steps p) i) }

further-same : (before after : List Row) (place steps : List Step) → under before (place ++ steps) ≡ under after (place ++ steps) → further (seen_from before place) steps ≡ further (seen_from after place) steps
further-same before after place steps e = further-from before place steps ∙ seen-same before after (place ++ steps) e ∙ sym (further-from after place steps)

-- ---- rules that depend only on their list

module _ (table : SchemaTable) (m : Option ℕ) (n : ℕ) (see also : Seen) (same : further see (Node n ∷ []) ≡ further also (Node n ∷ [])) where
  pub too_many-local : broken table see m (MaxElements n) ≡ broken table also m (MaxElements n)
  too_many-local = ap (λ (s : Seen). is_kind has_entries table n && (is_same (data_parent table n) m && is_past (max_elements table n) (length (s.entries [])))) same

  pub repeats-local : broken table see m (Unique n) ≡ broken table also m (Unique n)
  repeats-local = ap (λ (s : Seen). is_kind is_list table n && (is_same (data_parent table n) m && list_any (λ leafs. has_double (flat_map (λ entry. option_to_list (cells_at (further s (entry ∷ [])) (map (way_in_entry table) leafs))) (s.entries []))) (uniques_of table n))) same

-- ---- the laws

pub breaks : BreaksNearAChange
breaks table before after place m rule kept is e = let no_change : false ≡ true = sym kept ∙ ap (λ (s : Seen). broken table s m rule) (seen-same before after place e) ∙ is in cc

pub too_many : TooManyNearAChange
too_many table before after place m n kept is e =
    let no_change : false ≡ true = sym kept ∙ too_many-local table m n (seen_from before place) (seen_from after place) (further-same before after place (Node n ∷ []) e) ∙ is in cc

pub repeats : RepeatsNearAChange
repeats table before after place m n kept is e =
    let no_change : false ≡ true = sym kept ∙ repeats-local table m n (seen_from before place) (seen_from after place) (further-same before after place (Node n ∷ []) e) ∙ is in cc
