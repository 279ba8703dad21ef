-- Where nothing clashes, base and tip have the same rows at and below each path that is put or deleted, and under version rules 2 the same
-- cell at each leaf that is merged.
use Rattle.std.proofs.Common.{◌≡◌, ℕ, zero, suc, ◌+◌, ◌-◌, ◌≤◌, Bool, true, false, List, [], ◌∷◌, ◌++◌, ◌&&◌, ◌||◌, Option, None, Some, refl, ap, sym, subst, ◌∙◌, cond, arith, take, length, append_assoc, append-nil, reverse, if◌then◌else◌}
use Rattle.std.proofs.lemmas.Bool.{and_parts, or_parts}
use Rattle.std.specs.Prelude.{is_some, not, find, slice_get, unwrap_or}
use Rattle.std.specs.List.{list_any, position_from}
use Rattle.std.specs.Option.{option_map, option_or}
use Rattle.std.proofs.lemmas.List.{take_all}
use Rattle.std.proofs.lemmas.List.Sorted.{IsPermutation-reverse, list_any-IsPermutation}
use Rattle.std.proofs.lemmas.Option.{same_Some}
use Rattle.sal_types.specs.declared.value.Store.{Store}
use Rattle.sal_types.specs.declared.value.Store.TheVariants.{Config, Oper}
use Rattle.sal_types.specs.declared.value.Step.{Step}
use Rattle.sal_types.specs.declared.row.Row.{Row}
use Rattle.sal_types.specs.Prefix.{is_prefix}
use Rattle.sal_types.specs.Tree.{cell, has}
use Rattle.sal_rows.specs.declared.op.Op.{Op}
use Rattle.sal_rows.specs.Apply.{same_store, checks_path, is_read, apply_ops, cell_by, last_setting, rows_of_act}
use Rattle.sal_rows.specs.Changes.{same_cell}
use Rattle.sal_rows.specs.Commits.{tree_after, tree_at, commit_touches, touches_at, is_unchanged, unchanged_by, numbers_after, numbers_in}
use Rattle.sal_rows.specs.declared.clash.Span.{Span}
use Rattle.sal_rows.specs.PathClash.{Difference as At, difference, is_covered}
use Rattle.sal_rows.proofs.Applied.{cell-apply_ops}
use Rattle.sal_rows.proofs.Patched.{one_cell}
use Rattle.sal_rows.proofs.SpanTouches.{find_none}
use Rattle.sal_rows.proofs.Untouched.{no_cell, cell-untouched}
use Rattle.sal_types.proofs.Prefixes.{IsPrefix-from_test, is_prefix-append}
use Rattle.sal_rows.specs.declared.clash.Clash.{Clash}
use Rattle.sal_rows.specs.declared.clash.Rules.{Rules}
use Rattle.sal_rows.specs.Clash.{at_row, checks_leafs, clash_from, is_leaf, is_stale, last_touch_over, leaf_clash, numbers_over, op_clash, parent_clash, path_clash, read_clash, reads_from, tip}
use Rattle.sal_rows.specs.Quiet.{SameBelow, AreFresh, AreSpans, with_own, AreQuiet, NoClashIsQuiet, SameOrTouched}

-- ---- rows below a path

-- operations of both trees keep what is the same
same-apply : (s : Store) (ops : List Op) (p : List Step) (x y : List Row) → SameBelow p x y → SameBelow p (apply_ops x s ops) (apply_ops y s ops)
same-apply s ops p x y h r below = cell-apply_ops x s ops r ∙ ap (cell_by (last_setting s ops r)) (h r below) ∙ sym (cell-apply_ops y s ops r)

-- what begins with a path that begins with another one
pub prefix_below : (q p r : List Step) → is_prefix q p ≡ true → is_prefix p r ≡ true → is_prefix q r ≡ true
prefix_below q p r e below =
    let v = IsPrefix-from_test q p e in
    let w = IsPrefix-from_test p r below in
    ap (is_prefix q) (w.1 ∙ ap (λ l. l ++ w.0) v.1 ∙ append_assoc q v.0 w.0) ∙ is_prefix-append q (v.0 ++ w.0)

-- what is the same below a path is so below a longer one
same-below : (q p : List Step) (x y : List Row) → is_prefix q p ≡ true → SameBelow q x y → SameBelow p x y
same-below q p x y e h r below = h r (prefix_below q p r e below)

-- ---- one commit

-- a commit that does not touch p keeps what is there
one_commit : (s : Store) (p : List Step) (tree : List Row) (commits : List (List Op)) (k : ℕ) → commit_touches (tree_after s tree (take k commits)) s p (slice_get commits k) ≡ false
    → SameBelow p (tree_after s tree (take k commits)) (tree_after s tree (take (suc k) commits))
one_commit s p tree [] zero e = λ r below. refl
one_commit s p tree [] (suc k) e = λ r below. refl
one_commit s p tree (ops ∷ commits) zero e = λ r below. sym (cell-untouched tree s ops p r e below)
one_commit s p tree (ops ∷ commits) (suc k) e = one_commit s p (apply_ops tree s ops) commits k e

-- what an own commit sets
own_commit : (s : Store) (tree : List Row) (commits : List (List Op)) (k : ℕ) (r : List Step)
    → cell (apply_ops (tree_after s tree (take k commits)) s (unwrap_or (slice_get commits k) [])) r ≡ cell (tree_after s tree (take (suc k) commits)) r
own_commit s tree [] zero r = cell-apply_ops tree s [] r
own_commit s tree [] (suc k) r = cell-apply_ops tree s [] r
own_commit s tree (ops ∷ commits) zero r = refl
own_commit s tree (ops ∷ commits) (suc k) r = own_commit s (apply_ops tree s ops) commits k r

any_append : (t : ℕ → Bool) (xs ys : List ℕ) → list_any t (xs ++ ys) ≡ (list_any t xs || list_any t ys)
any_append t [] ys = refl
any_append t (x ∷ xs) ys = elim (t x) as (λ b. (b || list_any t (xs ++ ys)) ≡ ((b || list_any t xs) || list_any t ys)) [ true ↦ refl | false ↦ any_append t xs ys ]

module _ (opening : Store → List Row) (commits : List (List Op)) (s : Store) (p : List Step) where
  -- ---- one span

  untouched : (n a : ℕ) → list_any (touches_at opening commits s p) (numbers_after a n) ≡ false → SameBelow p (tree_at opening commits s a) (tree_at opening commits s (a + n))
  untouched zero a e = let same : a ≡ a + 0 = omega arith in λ r below. ap (λ k. cell (tree_at opening commits s k) r) same
  untouched (suc n) a e =
      let back : a ≡ a + 1 - 1 = omega arith in
      let next : suc a ≡ a + 1 = omega arith in
      let there : (a + 1) + n ≡ a + suc n = omega arith in
      let first = ap (λ k. commit_touches (tree_at opening commits s k) s p (slice_get commits k)) back ∙ (or_parts (touches_at opening commits s p (a + 1)) _ e).0 in
      let rest = untouched n (a + 1) (or_parts (touches_at opening commits s p (a + 1)) _ e).1 in
      λ r below. one_commit s p (opening s) commits a first r below ∙ ap (λ k. cell (tree_at opening commits s k) r) next ∙ rest r below ∙ ap (λ k. cell (tree_at opening commits s k) r) there

  both_absent : (was is t : Bool) → was ≡ false → unchanged_by was is t ≡ true → is ≡ false
  both_absent false false t w e = refl
  both_absent false true t w e = cc
  both_absent true is t w e = cc

  both_present : (was is t : Bool) → was ≡ true → unchanged_by was is t ≡ true → t ≡ false
  both_present true true false w e = refl
  both_present true true true w e = cc
  both_present true false t w e = cc
  both_present false is t w e = cc

  unchanged-same : (span : Span) → span.from ≤ span.to → is_unchanged opening commits s p span ≡ true → SameBelow p (tree_at opening commits s span.from) (tree_at opening commits s span.to)
  unchanged-same span ordered e =
      let was = has (tree_at opening commits s span.from) p in
      let is = has (tree_at opening commits s span.to) p in
      let t = list_any (touches_at opening commits s p) (numbers_in span) in
      elim was as (λ b. was ≡ b → SameBelow p (tree_at opening commits s span.from) (tree_at opening commits s span.to)) [
        | true ↦ λ w.
            let end : span.from + (span.to - span.from) ≡ span.to = omega (arith, ordered) in
            λ r below. untouched (span.to - span.from) span.from (both_present was is t w e) r below ∙ ap (λ k. cell (tree_at opening commits s k) r) end
        | false ↦ λ w. λ r below. no_cell (is_prefix p) _ r w below ∙ sym (no_cell (is_prefix p) _ r (both_absent was is t w e) below)
      ] refl

  -- ---- all spans

  abbrev changed : Span → Bool
  changed span = not (is_unchanged opening commits s p span)

  none_first : (span : Span) (spans : List Span) → find changed (span ∷ spans) ≡ None → is_unchanged opening commits s p span ≡ true
  none_first span spans e = elim (is_unchanged opening commits s p span) as (λ b. cond (not b) (Some span) (find changed spans) ≡ None → b ≡ true) [ true ↦ λ f. refl | false ↦ λ f. cc ] e

  none_rest : (span : Span) (spans : List Span) → find changed (span ∷ spans) ≡ None → find changed spans ≡ None
  none_rest span spans e = elim (is_unchanged opening commits s p span) as (λ b. cond (not b) (Some span) (find changed spans) ≡ None → find changed spans ≡ None) [ true ↦ λ f. f | false ↦ λ f. cc ] e

  abbrev AllSame : List Span → Type 0
  AllSame [] = Unit {0}
  AllSame (span ∷ spans) = SameBelow p (tree_at opening commits s span.from) (tree_at opening commits s span.to) × AllSame spans

  over_same : (span : Span) (spans : List Span) (tree : List Row) → AreSpans (length commits) span spans → AllSame (span ∷ spans)
      → SameBelow p tree (tree_at opening commits s span.from) → SameBelow p (with_own commits s tree spans) (tip opening commits s)
  over_same span [] tree are all_same same =
      let all : take span.to commits ≡ commits = take_all span.to commits (omega (arith, are.1)) in
      λ r below. same r below ∙ all_same.0 r below ∙ ap (λ (cs : List (List Op)). cell (tree_after s (opening s) cs) r) all
  over_same span (next ∷ spans) tree are all_same same =
      let here : SameBelow p tree (tree_at opening commits s span.to) = λ r below. same r below ∙ all_same.0 r below in
      let back : next.from - 1 ≡ span.to = omega (arith, are.1) in
      let start : suc span.to ≡ next.from = omega (arith, are.1) in
      let own = unwrap_or (slice_get commits (next.from - 1)) [] in
      over_same next spans (apply_ops tree s own) are.2 all_same.1 (λ r below.
      same-apply s own p tree (tree_at opening commits s span.to) here r below
      ∙ ap (λ k. cell (apply_ops (tree_at opening commits s span.to) s (unwrap_or (slice_get commits k) [])) r) back
      ∙ own_commit s (opening s) commits span.to r
      ∙ ap (λ k. cell (tree_at opening commits s k) r) start)

  unchanged_all : (span : Span) (spans : List Span) → AreSpans (length commits) span spans → find changed (span ∷ spans) ≡ None → AllSame (span ∷ spans)
  unchanged_all span [] are none = (unchanged-same span are.0 (none_first span [] none), tt)
  unchanged_all span (next ∷ spans) are none =
      (unchanged-same span are.0 (none_first span (next ∷ spans) none), unchanged_all next spans are.2 (none_rest span (next ∷ spans) none))

  untouched-same : (span : Span) → span.from ≤ span.to → list_any (touches_at opening commits s p) (numbers_in span) ≡ false → SameBelow p (tree_at opening commits s span.from) (tree_at opening commits s span.to)
  untouched-same span ordered none =
      let end : span.from + (span.to - span.from) ≡ span.to = omega (arith, ordered) in
      λ r below. untouched (span.to - span.from) span.from none r below ∙ ap (λ k. cell (tree_at opening commits s k) r) end

  untouched_all : (span : Span) (spans : List Span) → AreSpans (length commits) span spans → list_any (touches_at opening commits s p) (numbers_over (span ∷ spans)) ≡ false → AllSame (span ∷ spans)
  untouched_all span [] are none =
      (untouched-same span are.0 (or_parts (list_any (touches_at opening commits s p) (numbers_in span)) false (sym (any_append (touches_at opening commits s p) (numbers_in span) []) ∙ none)).0, tt)
  untouched_all span (next ∷ spans) are none =
      let parts = sym (any_append (touches_at opening commits s p) (numbers_in span) (numbers_over (next ∷ spans))) ∙ none in
      (untouched-same span are.0 (or_parts (list_any (touches_at opening commits s p) (numbers_in span)) _ parts).0, untouched_all next spans are.2 (or_parts (list_any (touches_at opening commits s p) (numbers_in span)) _ parts).1)

  -- where p is unchanged over each span, base and tip have the same there
  pub over_unchanged : (span : Span) (spans : List Span) (tree : List Row) → AreSpans (length commits) span spans → find changed (span ∷ spans) ≡ None
      → SameBelow p tree (tree_at opening commits s span.from) → SameBelow p (with_own commits s tree spans) (tip opening commits s)
  over_unchanged span spans tree are none same = over_same span spans tree are (unchanged_all span spans are none) same

  -- and so where no commit in a span touches it
  pub over_untouched : (span : Span) (spans : List Span) (tree : List Row) → AreSpans (length commits) span spans → list_any (touches_at opening commits s p) (numbers_over (span ∷ spans)) ≡ false
      → SameBelow p tree (tree_at opening commits s span.from) → SameBelow p (with_own commits s tree spans) (tip opening commits s)
  over_untouched span spans tree are none same = over_same span spans tree are (untouched_all span spans are none) same

-- ---- all operations

pub no_map : {X Y : Type 0} (f : X → Y) (o : Option X) → option_map f o ≡ None → o ≡ None
no_map f None e = refl
no_map f (Some x) e = cc

pub or_none_first : {X : Type 0} (a b : Option X) → option_or a b ≡ None → a ≡ None
or_none_first None b e = refl
or_none_first (Some x) b e = cc

pub or_none_second : {X : Type 0} (a b : Option X) → option_or a b ≡ None → b ≡ None
or_none_second None b e = e
or_none_second (Some x) b e = cc

-- the conflict that a clash at the path of an operation is
abbrev found_at : List Op → Op → At → Clash
found_at earlier op c = record { op = length earlier; row = None; depth = length op.path; kind = c.kind; commit = c.commit }

pub same_stores : (a b : Store) → same_store a b ≡ true → a ≡ b
same_stores Config Config e = refl
same_stores Oper Oper e = refl
same_stores Config Oper e = cc
same_stores Oper Config e = cc

-- where a search by index finds nothing, nothing passes the test
no_position : {X : Type 0} (t : X → Bool) (n : ℕ) (xs : List X) → position_from t n xs ≡ None → (i : ℕ) (x : X) → slice_get xs i ≡ Some x → t x ≡ false
no_position t n [] e i x at = cc
no_position t n (y ∷ xs) e zero x at =
    let same : y ≡ x = same_Some y x at in
    ap t (sym same) ∙ elim (t y) as (λ b. cond b (Some n) (position_from t (n + 1) xs) ≡ None → b ≡ false) [ true ↦ λ f. cc | false ↦ λ f. refl ] e
no_position t n (y ∷ xs) e (suc i) x at =
    no_position t (n + 1) xs (elim (t y) as (λ b. cond b (Some n) (position_from t (n + 1) xs) ≡ None → position_from t (n + 1) xs ≡ None) [ true ↦ λ f. cc | false ↦ λ f. f ] e) i x at

not_false : (b : Bool) → (not b && true) ≡ false → b ≡ true
not_false true e = refl
not_false false e = cc

module _ (opening : Store → List Row) (commits : List (List Op)) (base : Store → List Row) (span : Span) (spans : List Span) (are : AreSpans (length commits) span spans) (is_base : (s : Store) → base s ≡ with_own commits s (tree_at opening commits s span.from) spans) where
  abbrev IsQuietAt : Op → Type 0
  IsQuietAt op = checks_path op.act ≡ true → SameBelow op.path (base op.store) (tip opening commits op.store)

  at_path : (s : Store) (p : List Step) → difference opening commits s (span ∷ spans) p ≡ None → SameBelow p (base s) (tip opening commits s)
  at_path s p e = λ r below.
      ap (λ (t : List Row). cell t r) (is_base s)
      ∙ over_unchanged opening commits s p span spans (tree_at opening commits s span.from) are (no_map _ _ e) (λ r below. refl) r below

  -- below an earlier put or delete
  at_covered : (earlier : List Op) (s : Store) (p : List Step) → AreQuiet base (tip opening commits) earlier → is_covered earlier s p ≡ true → SameBelow p (base s) (tip opening commits s)
  at_covered [] s p quiet e = absurd (no_cover e)
    where
      no_cover : false ≡ true → ⊥
      no_cover f = cc
  at_covered (op ∷ earlier) s p quiet e =
      elim ((same_store op.store s && checks_path op.act) && is_prefix op.path p) as (λ b. ((same_store op.store s && checks_path op.act) && is_prefix op.path p) ≡ b → (b || is_covered earlier s p) ≡ true → SameBelow p (base s) (tip opening commits s)) [
        | true ↦ λ b f.
            let parts = and_parts (same_store op.store s && checks_path op.act) (is_prefix op.path p) b in
            let tests = and_parts (same_store op.store s) (checks_path op.act) parts.0 in
            let store = same_stores op.store s tests.0 in
            same-below op.path p (base s) (tip opening commits s) parts.1 (subst (λ (t : Store). SameBelow op.path (base t) (tip opening commits t)) store (quiet.0 tests.1))
        | false ↦ λ b f. at_covered earlier s p quiet.1 f
      ] refl e

  module _ (rules : Rules) (earlier : List Op) (op : Op) (e : op_clash opening commits rules base (span ∷ spans) earlier op ≡ None) where
    none_behind : option_or (path_clash opening commits (span ∷ spans) earlier op) (leaf_clash opening commits rules base (span ∷ spans) earlier op) ≡ None
    none_behind = or_none_second (parent_clash opening commits base (span ∷ spans) earlier op) _ e

    no_path : path_clash opening commits (span ∷ spans) earlier op ≡ None
    no_path = or_none_first (path_clash opening commits (span ∷ spans) earlier op) _ none_behind

    no_leaf : leaf_clash opening commits rules base (span ∷ spans) earlier op ≡ None
    no_leaf = or_none_second (path_clash opening commits (span ∷ spans) earlier op) _ none_behind

  at_op : (rules : Rules) (earlier : List Op) (op : Op) → AreQuiet base (tip opening commits) earlier → op_clash opening commits rules base (span ∷ spans) earlier op ≡ None → IsQuietAt op
  at_op rules earlier op quiet e checks =
      let none = no_path rules earlier op e in
      elim (is_covered earlier op.store op.path) as (λ b. is_covered earlier op.store op.path ≡ b
      → (if checks_path op.act && not b
      then option_map (found_at earlier op) (difference opening commits op.store (span ∷ spans) op.path)
      else None) ≡ None → SameBelow op.path (base op.store) (tip opening commits op.store)) [
        | true ↦ λ b f. at_covered earlier op.store op.path quiet b
        | false ↦ λ b f. at_path op.store op.path (no_map (found_at earlier op) _ (ap (λ c. if c && true then option_map (found_at earlier op) (difference opening commits op.store (span ∷ spans) op.path) else None) (sym checks) ∙ f))
      ] refl none

  quiet-push : (earlier : List Op) (op : Op) → AreQuiet base (tip opening commits) earlier → IsQuietAt op → AreQuiet base (tip opening commits) (earlier ++ op ∷ [])
  quiet-push [] op quiet q = (q, tt)
  quiet-push (o ∷ earlier) op quiet q = (quiet.0, quiet-push earlier op quiet.1 q)

  -- what no commit in the spans touched has one cell
  same_untouched : (s : Store) (p : List Step) → last_touch_over opening commits (span ∷ spans) s p ≡ None → cell (base s) p ≡ cell (tip opening commits s) p
  same_untouched s p none =
      let all = numbers_over (span ∷ spans) in
      let t = touches_at opening commits s p in
      let nothing : list_any t all ≡ false = list_any-IsPermutation t all (reverse all) (IsPermutation-reverse all) ∙ find_none t (reverse all) none in
      ap (λ (tree : List Row). cell tree p) (is_base s)
      ∙ over_untouched opening commits s p span spans (tree_at opening commits s span.from) are nothing (λ r below. refl) p (itself p)
    where
      itself : (q : List Step) → is_prefix q q ≡ true
      itself q = ap (is_prefix q) (sym (append-nil q)) ∙ is_prefix-append q []

  -- a leaf that is not stale has one cell
  not_stale : (s : Store) (row : Row) → is_leaf row.cell ≡ true → is_stale opening commits base (span ∷ spans) s row ≡ false → cell (base s) row.path ≡ cell (tip opening commits s) row.path
  not_stale s row leaf fresh =
      let same = same_cell (cell (base s) row.path) (cell (tip opening commits s) row.path) in
      let touch = last_touch_over opening commits (span ∷ spans) s row.path in
      let fresh_here : (not same && is_some touch) ≡ false = ap (λ b. b && (not same && is_some touch)) (sym leaf) ∙ fresh in
      elim touch as (λ (o : Option ℕ). touch ≡ o → (not same && is_some o) ≡ false → cell (base s) row.path ≡ cell (tip opening commits s) row.path) [
        | None ↦ λ e f. same_untouched s row.path e
        | Some k ↦ λ e f. one_cell (cell (base s) row.path) (cell (tip opening commits s) row.path) (not_false same f)
      ] refl fresh_here

  abbrev IsFreshAt : Rules → Op → Type 0
  IsFreshAt rules op =
      checks_leafs rules op.act ≡ true → (i : ℕ) (row : Row) → slice_get (rows_of_act op.act) i ≡ Some row → is_leaf row.cell ≡ true → is_prefix op.path row.path ≡ true
      → cell (base op.store) row.path ≡ cell (tip opening commits op.store) row.path

  at_leafs : (rules : Rules) (earlier : List Op) (op : Op) → AreQuiet base (tip opening commits) earlier → op_clash opening commits rules base (span ∷ spans) earlier op ≡ None → IsFreshAt rules op
  at_leafs rules earlier op quiet e checks i row at leaf below =
      let stale = is_stale opening commits base (span ∷ spans) op.store in
      let rows = rows_of_act op.act in
      let found = option_map (at_row opening commits base (span ∷ spans) earlier op) (position_from stale 0 rows) in
      elim (is_covered earlier op.store op.path) as (λ b. is_covered earlier op.store op.path ≡ b → (if checks_leafs rules op.act && not b then found else None) ≡ None
      → cell (base op.store) row.path ≡ cell (tip opening commits op.store) row.path) [
        | true ↦ λ b f. at_covered earlier op.store op.path quiet b row.path below
        | false ↦ λ b f.
            let nothing : position_from stale 0 rows ≡ None = no_map (at_row opening commits base (span ∷ spans) earlier op) (position_from stale 0 rows) (ap (λ c. if c && true then found else None) (sym checks) ∙ f) in
            not_stale op.store row leaf (no_position stale 0 rows nothing i row at)
      ] refl (no_leaf rules earlier op e)

  from : (rules : Rules) (earlier ops : List Op) → AreQuiet base (tip opening commits) earlier → clash_from opening commits rules base (span ∷ spans) earlier ops ≡ None
      → AreQuiet base (tip opening commits) ops × AreFresh rules base (tip opening commits) ops
  from rules earlier [] quiet e = (tt, tt)
  from rules earlier (op ∷ ops) quiet e =
      let none = or_none_first (op_clash opening commits rules base (span ∷ spans) earlier op) _ e in
      let here = at_op rules earlier op quiet none in
      let rest = from rules (earlier ++ op ∷ []) ops (quiet-push earlier op quiet here) (or_none_second (op_clash opening commits rules base (span ∷ spans) earlier op) _ e) in
      ((here, rest.0), (at_leafs rules earlier op quiet none, rest.1))

  -- ---- reads

  -- a read that is not covered, and has no conflict
  at_read : (earlier : List Op) (op : Op) → read_clash opening commits (span ∷ spans) earlier op ≡ None → is_read op.act ≡ true → is_covered earlier op.store op.path ≡ false
      → SameBelow op.path (base op.store) (tip opening commits op.store)
  at_read earlier op none reads bare =
      let found = option_map (found_at earlier op) (difference opening commits op.store (span ∷ spans) op.path) in
      at_path op.store op.path
      (no_map (found_at earlier op) _ (ap (λ c. if c && true then found else None) (sym reads) ∙ ap (λ c. if is_read op.act && not c then found else None) (sym bare) ∙ none))

  reads_quiet : (earlier ops : List Op) → reads_from opening commits (span ∷ spans) earlier ops ≡ None → (i : ℕ) (op : Op) → slice_get ops i ≡ Some op → is_read op.act ≡ true
      → is_covered (earlier ++ take i ops) op.store op.path ≡ false → SameBelow op.path (base op.store) (tip opening commits op.store)
  reads_quiet earlier [] none i op at reads bare = cc
  reads_quiet earlier (o ∷ ops) none zero op at reads bare =
      let same : o ≡ op = same_Some o op at in
      let here : read_clash opening commits (span ∷ spans) earlier op ≡ None = ap (read_clash opening commits (span ∷ spans) earlier) (sym same) ∙ or_none_first (read_clash opening commits (span ∷ spans) earlier o) _ none in
      at_read earlier op here reads (ap (λ (l : List Op). is_covered l op.store op.path) (sym (append-nil earlier)) ∙ bare)
  reads_quiet earlier (o ∷ ops) none (suc i) op at reads bare =
      reads_quiet (earlier ++ o ∷ []) ops (or_none_second (read_clash opening commits (span ∷ spans) earlier o) _ none) i op at reads
      (ap (λ (l : List Op). is_covered l op.store op.path) (append_assoc earlier (o ∷ []) (take i ops)) ∙ bare)

pub no_clash-quiet : NoClashIsQuiet
no_clash-quiet opening commits rules base span spans ops are is_base none =
    let writes = clash_from opening commits rules base (span ∷ spans) [] ops in
    let quiet = from opening commits base span spans are is_base rules [] ops tt (or_none_first writes _ none) in
    (quiet.0, quiet.1, reads_quiet opening commits base span spans are is_base [] ops (or_none_second writes _ none))

pub same_or_touched : SameOrTouched
same_or_touched opening commits base span spans s p are is_base none = same_untouched opening commits base span spans are is_base s p none
