-- A tree that is whole near the patches is whole everywhere.
use Rattle.std.proofs.Common.{◌≡◌, ◌⊎◌, inl, inr, ⊎_elim, Bool, true, false, not, ◌&&◌, List, [], ◌∷◌, ◌++◌, Option, Some, if◌then◌else◌, refl, ap, sym, ◌∙◌}
use Rattle.std.specs.Prelude.{◌||◌}
use Rattle.std.specs.List.{list_all, list_any}
use Rattle.std.proofs.lemmas.Bool.{and_parts, and_from, or_parts}
use Rattle.sal_types.specs.declared.value.Cell.{Cell}
use Rattle.sal_types.specs.declared.value.Step.{Step}
use Rattle.sal_types.specs.declared.value.Step.TheVariants.{Node}
use Rattle.sal_types.specs.declared.row.Row.{Row}
use Rattle.std.specs.Ordering.{eq_by_cmp}
use Rattle.sal_types.specs.Order.{step_cmp, path_eq}
use Rattle.sal_types.specs.Prefix.{is_prefix}
use Rattle.sal_types.specs.Tree.{cell, has, IsAscending}
use Rattle.sal_types.proofs.Prefixes.{is_prefix-append}
use Rattle.sal_rows.specs.declared.rows.patch.Patch.{Patch}
use Rattle.sal_rows.specs.Patch.{with_cell, patched}
use Rattle.sal_rows.proofs.Cells.{same_path}
use Rattle.sal_rows.proofs.Patched.{ascending-with_cell, cell-with_cell}
use Rattle.sal_schema.specs.declared.table.SchemaTable.{SchemaTable}
use Rattle.sal_schema.specs.Fitting.{is_whole_at, is_in_message, is_closed}
use Rattle.sal_schema.specs.Paths.{fits_path}
use Rattle.sal_history_laws.proofs.Fronts.{all_fronts, of_fronts, same_step, front_itself}
use Rattle.sal_history_laws.proofs.Standing.{stands_below, has_where}
use Rattle.sal_history_laws.proofs.Wholes.{Fits, AllFit, fits-AllFit, AllFit-fits, same_whole}
use Rattle.sal_near.specs.Near.{cell_or_none_fits, patch_fits, patches_fit, is_whole_to, is_near, are_near}

-- ---- patched rows

-- one of the patches is at the path
abbrev pub at_one : List Step → List Patch → Bool
at_one r ps = list_any (λ p. path_eq r p.path) ps

pub ascending-patched : (ps : List Patch) (rows : List Row) → IsAscending rows → IsAscending (patched rows ps)
ascending-patched [] rows rising = rising
ascending-patched (p ∷ ps) rows rising = ascending-patched ps (with_cell rows p.path p.cell) (ascending-with_cell rows p.path p.cell rising)

-- without a patch the cell is the one before
pub not-patched : (ps : List Patch) (rows : List Row) (r : List Step) → at_one r ps ≡ false → cell (patched rows ps) r ≡ cell rows r
not-patched [] rows r none = refl
not-patched (p ∷ ps) rows r none =
    let here : path_eq r p.path ≡ false = (or_parts (path_eq r p.path) (at_one r ps) none).0 in
    not-patched ps (with_cell rows p.path p.cell) r (or_parts (path_eq r p.path) (at_one r ps) none).1 ∙ cell-with_cell rows p.path p.cell r ∙ ap (λ b. if b then p.cell else cell rows r) here

-- a patch of the list with a property of its path
record Found (t : Patch → Bool) (r : List Step) (o : Option Cell) : Type 0 where
  patch : Patch
  holds : t patch ≡ true
  path : patch.path ≡ r
  here : patch.cell ≡ o

-- a cell comes from a patch, or was there before
from_patch : (t : Patch → Bool) (ps : List Patch) (rows : List Row) (r : List Step) (c : Cell) → list_all t ps ≡ true → cell (patched rows ps) r ≡ Some c → Found t r (Some c) ⊎ (cell rows r ≡ Some c)
from_patch t [] rows r c all e = inr e
from_patch t (p ∷ ps) rows r c all e =
    let (first, rest) = and_parts (t p) (list_all t ps) all in
    ⊎_elim (λ (found : Found t r (Some c)). inl found)
    (λ (was : cell (with_cell rows p.path p.cell) r ≡ Some c).
    let now : (if path_eq r p.path then p.cell else cell rows r) ≡ Some c = sym (cell-with_cell rows p.path p.cell r) ∙ was in
    elim (path_eq r p.path) as (λ b. path_eq r p.path ≡ b → (if b then p.cell else cell rows r) ≡ Some c → Found t r (Some c) ⊎ (cell rows r ≡ Some c)) [
      | true ↦ λ is f. inl (record { patch = p; holds = first; path = sym (same_path r p.path is); here = f })
      | false ↦ λ is f. inr f
    ] refl now)
    (from_patch t ps (with_cell rows p.path p.cell) r c rest e)

-- ---- patches under a path

any_under : (q : List Step) (t : Patch → Bool) (ps : List Patch) → list_any (λ p. is_prefix q p.path) ps ≡ true → list_all t ps ≡ true → (p : Patch) × (is_prefix q p.path ≡ true) × (t p ≡ true)
any_under q t [] any all = cc
any_under q t (p ∷ ps) any all =
    let (first, rest) = and_parts (t p) (list_all t ps) all in
    elim (is_prefix q p.path) as (λ b. is_prefix q p.path ≡ b → (b || list_any (λ p. is_prefix q p.path) ps) ≡ true → (p : Patch) × (is_prefix q p.path ≡ true) × (t p ≡ true)) [
      | true ↦ λ is f. (p, is, first)
      | false ↦ λ is f. any_under q t ps f rest
    ] refl any

-- the path of a patch that is not under q is no path under it
apart : (q x y : List Step) → is_prefix q y ≡ false → is_prefix q x ≡ true → path_eq x y ≡ false
apart q x y out inside =
    elim (path_eq x y) as (λ b. path_eq x y ≡ b → b ≡ false) [
      | true ↦ λ is. sym inside ∙ ap (is_prefix q) (same_path x y is) ∙ out
      | false ↦ λ is. refl
    ] refl

none_at : (q x : List Step) (ps : List Patch) → list_any (λ p. is_prefix q p.path) ps ≡ false → is_prefix q x ≡ true → at_one x ps ≡ false
none_at q x [] none inside = refl
none_at q x (p ∷ ps) none inside =
    let (first, rest) = or_parts (is_prefix q p.path) (list_any (λ p. is_prefix q p.path) ps) none in
    ap (λ b. b || at_one x ps) (apart q x p.path first inside) ∙ none_at q x ps rest inside

-- ---- the two tests

module _ (table : SchemaTable) (before : List Row) (ps : List Patch) where
  abbrev after : List Row
  after = patched before ps

  first_alone : (s : Step) (p r : List Step) → is_in_message table (s ∷ p) ≡ true → is_in_message table (s ∷ r) ≡ true
  first_alone (Node n) p r e = e
  first_alone s p r e = cc

  -- a path is in a message with all below it
  message-below : (p r : List Step) → is_prefix p r ≡ true → is_in_message table p ≡ true → is_in_message table r ≡ true
  message-below [] r below e = cc
  message-below (s ∷ p) [] below e = cc
  message-below (s ∷ p) (u ∷ r) below e = sym (ap (λ x. is_in_message table (x ∷ r)) (same_step s u (and_parts (eq_by_cmp step_cmp s u) (is_prefix p r) below).0)) ∙ first_alone s p r e

  -- a closed tree is whole near any patch
  whole_near : AllFit table [] after → (p : Patch) → is_near table after p ≡ true
  whole_near all p =
      and_from (not (is_in_message table p.path && has after p.path)) (is_whole_to table after p.path) (no_message (is_in_message table p.path) (has after p.path) refl refl)
      (of_fronts (λ q. not (has after q) || is_whole_at table after q) p.path (λ q front. by q (has after q) refl))
    where
      by : (q : List Step) (b : Bool) → has after q ≡ b → (not b || is_whole_at table after q) ≡ true
      by q true h = let (r, c, below, e) = stands_below after q h in (all r c e).whole q below refl
      by q false h = refl

      out : (b : Bool) → (not true || not b) ≡ true → b ≡ true → ⊥
      out true e f = cc
      out false e f = cc

      no_message : (a b : Bool) → is_in_message table p.path ≡ a → has after p.path ≡ b → not (a && b) ≡ true
      no_message true true m h = let (r, c, below, e) = stands_below after p.path h in absurd (out (is_in_message table r) (all r c e).outside (message-below p.path r below m))
      no_message true false m h = refl
      no_message false b m h = refl

  -- a patch that fits, near which all is whole
  abbrev good : Patch → Bool
  good p = patch_fits table p && is_near table after p

  if_has : (a b : Bool) → a ≡ true → (not a || b) ≡ true → b ≡ true
  if_has true b is h = h
  if_has false b is h = cc

  no_two : (a b : Bool) → b ≡ true → not (a && b) ≡ true → not a ≡ true
  no_two true true is h = h
  no_two true false is h = cc
  no_two false b is h = refl

  module _ (closed : AllFit table [] before) (goods : list_all good ps ≡ true) where
    -- an entry or presence container above a row is whole
    whole-here : (r : List Step) (c : Cell) → cell after r ≡ Some c → (q : List Step) → is_prefix q r ≡ true → is_whole_at table after q ≡ true
    whole-here r c e q front =
        elim (list_any (λ p. is_prefix q p.path) ps) as (λ b. list_any (λ p. is_prefix q p.path) ps ≡ b → is_whole_at table after q ≡ true) [
          | true ↦ λ any.
              let (p, below, fine) = any_under q good ps any goods in
              let near = (and_parts (patch_fits table p) (is_near table after p) fine).1 in
              let to = (and_parts (not (is_in_message table p.path && has after p.path)) (is_whole_to table after p.path) near).1 in
              if_has (has after q) (is_whole_at table after q) (has_where after q r c e front) (all_fronts (λ x. not (has after x) || is_whole_at table after x) p.path q to below)
          | false ↦ λ none.
              let was : cell before r ≡ Some c = sym (not-patched ps before r (none_at q r ps none front)) ∙ e in
              same_whole after before q table (not-patched ps before q (none_at q q ps none (front_itself q)))
              (λ leaf among. not-patched ps before (q ++ Node leaf ∷ []) (none_at q (q ++ Node leaf ∷ []) ps none (is_prefix-append q (Node leaf ∷ []))))
              ∙ (closed r c was).whole q front refl
        ] refl

    fits-here : (r : List Step) (c : Cell) → cell after r ≡ Some c → Fits table [] after r c
    fits-here r c e =
        ⊎_elim (λ (found : Found good r (Some c)).
        let (fine, near) = and_parts (patch_fits table found.patch) (is_near table after found.patch) found.holds in
        let (path, kind) = and_parts (fits_path table found.patch.path) (cell_or_none_fits table found.patch.path found.patch.cell) fine in
        let outside = (and_parts (not (is_in_message table found.patch.path && has after found.patch.path)) (is_whole_to table after found.patch.path) near).0 in
        record {
          path = sym (ap (fits_path table) found.path) ∙ path;
          below = refl;
          kind = sym (λ i. cell_or_none_fits table (found.path i) (found.here i)) ∙ kind;
          whole = λ q front under. whole-here r c e q front;
          outside = no_two (is_in_message table r) (has after r) (has_where after r r c e (front_itself r)) (sym (ap (λ x. not (is_in_message table x && has after x)) found.path) ∙ outside);
        })
        (λ (was : cell before r ≡ Some c).
        let it = closed r c was in
        record { path = it.path; below = refl; kind = it.kind; whole = λ q front under. whole-here r c e q front; outside = it.outside })
        (from_patch good ps before r c goods e)

all_of : (t : Patch → Bool) (ps : List Patch) → ((p : Patch) → t p ≡ true) → list_all t ps ≡ true
all_of t [] all = refl
all_of t (p ∷ ps) all = and_from (t p) (list_all t ps) (all p) (all_of t ps all)

both_all : (s t : Patch → Bool) (ps : List Patch) → list_all s ps ≡ true → list_all t ps ≡ true → list_all (λ p. s p && t p) ps ≡ true
both_all s t [] a b = refl
both_all s t (p ∷ ps) a b =
    let (first, rest) = and_parts (s p) (list_all s ps) a in
    let (one, more) = and_parts (t p) (list_all t ps) b in
    and_from (s p && t p) (list_all (λ p. s p && t p) ps) (and_from (s p) (t p) first one) (both_all s t ps rest more)

same : (a b : Bool) → (a ≡ true → b ≡ true) → (b ≡ true → a ≡ true) → a ≡ b
same true b f g = sym (f refl)
same false true f g = g refl
same false false f g = refl

pub near-closed : (table : SchemaTable) (before : List Row) (ps : List Patch) → IsAscending before → is_closed table before ≡ true → patches_fit table ps ≡ true
    → is_closed table (patched before ps) ≡ are_near table (patched before ps) ps
near-closed table before ps rising closed fine =
    same (is_closed table (patched before ps)) (are_near table (patched before ps) ps)
    (λ all. all_of (is_near table (patched before ps)) ps (whole_near table before ps (fits-AllFit table [] (patched before ps) all)))
    (λ near. AllFit-fits table [] (patched before ps) (ascending-patched ps before rising)
    (fits-here table before ps (fits-AllFit table [] before closed) (both_all (patch_fits table) (is_near table (patched before ps)) ps fine near)))
