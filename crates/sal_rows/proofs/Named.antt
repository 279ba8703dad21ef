-- A conflict names a commit of a span that touched its path.
use Rattle.std.proofs.Common.{◌≡◌, ℕ, suc, ◌+◌, ◌-◌, ◌<◌, ◌≤◌, Bool, true, false, List, [], ◌∷◌, ◌++◌, ◌&&◌, take, length, reverse, Option, None, Some, refl, ap, sym, ◌∙◌, subst, cond, if◌then◌else◌, arith, append_assoc, append-nil}
use Rattle.std.proofs.lemmas.Bool.{and_parts}
use Rattle.std.specs.Prelude.{not, find, unwrap_or, slice_get, is_some}
use Rattle.std.specs.List.{list_any, All, Any, Contains, position_from}
use Rattle.std.specs.Option.{option_or, option_map, option_map_or}
use Rattle.std.proofs.lemmas.List.{take_all}
use Rattle.std.proofs.lemmas.List.Elements.{All-contains, All-cons, All-nil}
use Rattle.std.proofs.lemmas.List.Sorted.{IsPermutation-reverse, All-permutation, list_any-IsPermutation}
use Rattle.std.proofs.lemmas.Option.{same_Some}
use Rattle.sal_types.specs.declared.value.Store.{Store}
use Rattle.sal_types.specs.declared.value.Step.{Step}
use Rattle.sal_types.specs.declared.row.Row.{Row}
use Rattle.sal_types.specs.Prefix.{is_prefix}
use Rattle.sal_types.specs.Tree.{cell, has}
use Rattle.sal_types.proofs.Prefixes.{is_prefix-append}
use Rattle.sal_rows.specs.declared.op.Op.{Op}
use Rattle.sal_rows.specs.declared.outcome.ClashKind.TheVariants.{Deleted}
use Rattle.sal_rows.specs.Apply.{checks_path, is_read, last_setting, rows_of_act}
use Rattle.sal_rows.specs.Changes.{same_cell}
use Rattle.sal_rows.specs.Commits.{kind_by, numbers_in, tree_at, touches_at, is_unchanged, last_touch, kind_over}
use Rattle.sal_rows.specs.declared.clash.Span.{Span}
use Rattle.sal_rows.specs.PathClash.{Difference, difference, is_covered, IsNamedIn}
use Rattle.sal_rows.proofs.Numbers.{find_part}
use Rattle.sal_rows.proofs.SpanTouches.{find_holds, find_none, numbers_lie, at_named}
use Rattle.sal_rows.proofs.Untouched.{no_cell}
use Rattle.sal_rows.specs.declared.clash.Clash.{Clash}
use Rattle.sal_rows.specs.declared.clash.Rules.{Rules}
use Rattle.sal_rows.specs.Clash.{at_row, checks_leafs, clash, clash_from, is_leaf, is_stale, leaf_clash, op_clash, parent_clash, path_by, path_clash, read_clash, reads_from, needs_parents, is_lost, lost_parent, tip, numbers_over, depths_above, last_touch_over}
use Rattle.sal_rows.specs.Quiet.{AreSpans, with_own}
use Rattle.sal_rows.specs.Named.{place_of, IsPlaced, NamesALaterCommit}
use Rattle.sal_rows.proofs.Quiet.{over_untouched}
pub use Rattle.sal_types.proofs.Handy.{not_true}

any_here : {X : Type 0} (P : X → Type 0) (x : X) (xs : List X) → P x → Any P (x ∷ xs)
any_here P x xs p = (0, x, omega arith, refl, p)

any_there : {X : Type 0} (P : X → Type 0) (y : X) (xs : List X) → Any P xs → Any P (y ∷ xs)
any_there P y xs w = (suc w.0, w.1, omega (arith, w.2), w.3, w.4)

-- where a search from the end finds a number, one of the spans has it
found_in : (t : ℕ → Bool) (spans : List Span) (k : ℕ) → All (λ (span : Span). span.from ≤ span.to) spans → find t (reverse (numbers_over spans)) ≡ Some k
    → Any (λ (span : Span). (span.from < k) × (k ≤ span.to) × (t k ≡ true)) spans
found_in t [] k ordered e = absurd (nothing e)
  where
    nothing : {X : Type 0} {x : X} → None ≡ Some x → ⊥
    nothing f = cc
found_in t (span ∷ spans) k ordered e =
    let P : Span → Type 0 = λ s. (s.from < k) × (k ≤ s.to) × (t k ≡ true) in
    let lying : ℕ → Type 0 = λ n. (span.from < n) × (n ≤ span.from + (span.to - span.from)) in
    let le : span.from ≤ span.to = ordered 0 span (omega arith) in
    elim (find t (reverse (numbers_over spans))) as (λ (o : Option ℕ). find t (reverse (numbers_over spans)) ≡ o → option_or o (find t (reverse (numbers_in span))) ≡ Some k → Any P (span ∷ spans)) [
      | None ↦ λ f h.
          let found = find_holds t (reverse (numbers_in span)) k h in
          let lies : (span.from < k) × (k ≤ span.from + (span.to - span.from)) =
          All-contains lying (reverse (numbers_in span)) k (All-permutation lying (numbers_in span) (reverse (numbers_in span)) (IsPermutation-reverse (numbers_in span)) (numbers_lie span.from (span.to - span.from))) found.1 in
          any_here P span spans (lies.0, omega (arith, lies.1, le), found.0)
      | Some n ↦ λ f h. any_there P span spans (found_in t spans k (λ i s l. ordered (suc i) s (omega (arith, l))) (f ∙ h))
    ] refl (sym (find_part t (numbers_in span) (numbers_over spans)) ∙ e)

ordered_all : (newest : ℕ) (span : Span) (spans : List Span) → AreSpans newest span spans → All (λ (s : Span). s.from ≤ s.to) (span ∷ spans)
ordered_all newest span [] are = All-cons (λ (s : Span). s.from ≤ s.to) span [] are.0 (All-nil _)
ordered_all newest span (next ∷ spans) are = All-cons (λ (s : Span). s.from ≤ s.to) span (next ∷ spans) are.0 (ordered_all newest next spans are.2)

prefix_itself : (p : List Step) → is_prefix p p ≡ true
prefix_itself p = ap (is_prefix p) (sym (append-nil p)) ∙ is_prefix-append p []

slice_get_end : (earlier ops : List Op) (op : Op) → slice_get (earlier ++ op ∷ ops) (length earlier) ≡ Some op
slice_get_end [] ops op = refl
slice_get_end (o ∷ earlier) ops op = slice_get_end earlier ops op

-- what a lost parent, and a path that is not unchanged, are as conflicts
abbrev pub parent_found : (Store → List Row) → List (List Op) → List Span → List Op → Op → ℕ → Clash
parent_found opening commits spans earlier op d = record { op = length earlier; row = None; depth = d; kind = Deleted; commit = unwrap_or (last_touch_over opening commits spans op.store (take d op.path)) 0 }

abbrev pub path_found : List Op → Op → Difference → Clash
path_found earlier op x = record { op = length earlier; row = None; depth = length op.path; kind = x.kind; commit = x.commit }

abbrev differs : (Store → List Row) → List (List Op) → Op → Span → Bool
differs opening commits op x = not (is_unchanged opening commits op.store op.path x)

abbrev conflict_over : (Store → List Row) → List (List Op) → Op → Span → Difference
conflict_over opening commits op x = record { store = op.store; path = op.path; kind = kind_over opening commits op.store op.path x; commit = unwrap_or (last_touch opening commits op.store op.path x) 0 }

-- where the first trees have a row, the second have the same
abbrev pub IsWithin : (Store → List Row) → (Store → List Row) → Type 0
IsWithin base other = (s : Store) (q : List Step) → is_some (cell (base s) q) ≡ true → cell (base s) q ≡ cell (other s) q

-- what a search by index finds passes the test
position_holds : {X : Type 0} (t : X → Bool) (n : ℕ) (xs : List X) (i : ℕ) → position_from t n xs ≡ Some i → (k : ℕ) × (i ≡ n + k) × (x : X) × (slice_get xs k ≡ Some x) × (t x ≡ true)
position_holds t n [] i e = cc
position_holds {X} t n (y ∷ xs) i e =
    elim (t y) as (λ b. t y ≡ b → cond b (Some n) (position_from t (n + 1) xs) ≡ Some i → (k : ℕ) × (i ≡ n + k) × (x : X) × (slice_get (y ∷ xs) k ≡ Some x) × (t x ≡ true)) [
      | true ↦ λ h f. let same : n ≡ i = same_Some n i f in (0, omega (arith, same), y, refl, h)
      | false ↦ λ h f. let rest = position_holds t (n + 1) xs i f in (suc rest.0, omega (arith, rest.1), rest.2, rest.3, rest.4)
    ] refl e

some_of : (o : Option ℕ) → is_some o ≡ true → (k : ℕ) × (o ≡ Some k)
some_of None e = cc
some_of (Some k) e = (k, refl)

module _ (opening : Store → List Row) (commits : List (List Op)) (base : Store → List Row) (span : Span) (spans : List Span) (are : AreSpans (length commits) span spans) (agrees : IsWithin base (λ s. with_own commits s (tree_at opening commits s span.from) spans)) where
  -- what an operation's conflict says
  abbrev IsOf : Rules → List Op → Op → Clash → Type 0
  IsOf rules earlier op c = (c.op ≡ length earlier) × IsPlaced rules op c.depth c.row × Any (IsNamedIn opening commits (place_of op c)) (span ∷ spans)

  -- a lost parent was touched
  parent_touched : (s : Store) (q : List Step) → is_some (cell (base s) q) ≡ true → has (tip opening commits s) q ≡ false → find (touches_at opening commits s q) (reverse (numbers_over (span ∷ spans))) ≡ None → ⊥
  parent_touched s q there gone none =
      let nothing : list_any (touches_at opening commits s q) (numbers_over (span ∷ spans)) ≡ false =
      list_any-IsPermutation (touches_at opening commits s q) (numbers_over (span ∷ spans)) (reverse (numbers_over (span ∷ spans))) (IsPermutation-reverse (numbers_over (span ∷ spans))) ∙ find_none (touches_at opening commits s q) (reverse (numbers_over (span ∷ spans))) none in
      let same : cell (base s) q ≡ cell (tip opening commits s) q =
      agrees s q there ∙ over_untouched opening commits s q span spans (tree_at opening commits s span.from) are nothing (λ r below. refl) q (prefix_itself q) in
      let empty : cell (base s) q ≡ None = same ∙ no_cell (is_prefix q) (tip opening commits s) q gone (prefix_itself q) in
      let contrary : true ≡ false = sym there ∙ ap is_some empty in
      cc

  -- the conflict at a lost parent
  lost : (rules : Rules) (earlier : List Op) (op : Op) (d : ℕ) → (is_lost opening commits base earlier op.store (take d op.path) ≡ true) × Contains (depths_above op.path) d → IsOf rules earlier op (parent_found opening commits (span ∷ spans) earlier op d)
  lost rules earlier op d w =
      let q = take d op.path in
      let t = touches_at opening commits op.store q in
      let parts = and_parts (is_some (cell (base op.store) q)) (not (has (tip opening commits op.store) q) && not (is_some (last_setting op.store earlier q))) w.0 in
      let gone = not_true (has (tip opening commits op.store) q) (and_parts (not (has (tip opening commits op.store) q)) (not (is_some (last_setting op.store earlier q))) parts.1).0 in
      let lying : ℕ → Type 0 = λ n. (0 < n) × (n ≤ 0 + (length op.path - 1)) in
      let low : (0 < d) × (d ≤ 0 + (length op.path - 1)) = All-contains lying (depths_above op.path) d (numbers_lie 0 (length op.path - 1)) w.1 in
      elim (find t (reverse (numbers_over (span ∷ spans)))) as (λ (o : Option ℕ). find t (reverse (numbers_over (span ∷ spans))) ≡ o → IsOf rules earlier op (record { op = length earlier; row = None; depth = d; kind = Deleted; commit = unwrap_or o 0 })) [
        | None ↦ λ e. absurd (parent_touched op.store q parts.0 gone e)
        | Some k ↦ λ e.
            let short : d ≤ length op.path = omega (arith, low.1) in
            (refl, short, found_in t (span ∷ spans) k (ordered_all (length commits) span spans are) e)
      ] refl

  parent_named : (rules : Rules) (earlier : List Op) (op : Op) (c : Clash) → parent_clash opening commits base (span ∷ spans) earlier op ≡ Some c → IsOf rules earlier op c
  parent_named rules earlier op c =
      elim (needs_parents op.act) as (λ b. (if b then option_map (parent_found opening commits (span ∷ spans) earlier op) (lost_parent opening commits base earlier op.store op.path) else None) ≡ Some c → IsOf rules earlier op c) [
        | false ↦ λ e. cc
        | true ↦ elim (lost_parent opening commits base earlier op.store op.path) as (λ (o : Option ℕ). lost_parent opening commits base earlier op.store op.path ≡ o → option_map (parent_found opening commits (span ∷ spans) earlier op) o ≡ Some c → IsOf rules earlier op c) [
          | None ↦ λ e h. cc
          | Some d ↦ λ e h. subst (IsOf rules earlier op) (same_Some (parent_found opening commits (span ∷ spans) earlier op d) c h) (lost rules earlier op d (find_holds (λ n. is_lost opening commits base earlier op.store (take n op.path)) (depths_above op.path) d e))
        ] refl
      ]

  -- the conflict of an operation whose path is looked at
  looked_named : (rules : Rules) (looks : Bool) (earlier : List Op) (op : Op) (c : Clash)
      → (if looks && not (is_covered earlier op.store op.path) then option_map (path_found earlier op) (difference opening commits op.store (span ∷ spans) op.path) else None) ≡ Some c → IsOf rules earlier op c
  looked_named rules looks earlier op c =
      elim looks as (λ b. (if b && not (is_covered earlier op.store op.path) then option_map (path_found earlier op) (difference opening commits op.store (span ∷ spans) op.path) else None) ≡ Some c → IsOf rules earlier op c) [
        | false ↦ λ e. cc
        | true ↦ elim (not (is_covered earlier op.store op.path)) as (λ b. (if b then option_map (path_found earlier op) (difference opening commits op.store (span ∷ spans) op.path) else None) ≡ Some c → IsOf rules earlier op c) [
          | false ↦ λ e. cc
          | true ↦ elim (find (differs opening commits op) (span ∷ spans)) as (λ (o : Option Span). find (differs opening commits op) (span ∷ spans) ≡ o → option_map (path_found earlier op) (option_map (conflict_over opening commits op) o) ≡ Some c → IsOf rules earlier op c) [
            | None ↦ λ e h. cc
            | Some other ↦ λ e h.
                let whole : take (length op.path) op.path ≡ op.path = take_all (length op.path) op.path (omega arith) in
                let names : Any (IsNamedIn opening commits (conflict_over opening commits op other)) (span ∷ spans) =
                at_named opening commits op.store (span ∷ spans) op.path (conflict_over opening commits op other) (ordered_all (length commits) span spans are) (ap (option_map (conflict_over opening commits op)) e) in
                let named_here : Any (IsNamedIn opening commits (place_of op (path_found earlier op (conflict_over opening commits op other)))) (span ∷ spans) =
                subst (λ q. Any (IsNamedIn opening commits (record { store = op.store; path = q; kind = kind_over opening commits op.store op.path other; commit = unwrap_or (last_touch opening commits op.store op.path other) 0 })) (span ∷ spans)) (sym whole) names in
                let short : length op.path ≤ length op.path = omega arith in
                subst (IsOf rules earlier op) (same_Some (path_found earlier op (conflict_over opening commits op other)) c h) (refl, short, named_here)
          ] refl
        ]
      ]

  path_named : (rules : Rules) (earlier : List Op) (op : Op) (c : Clash) → path_clash opening commits (span ∷ spans) earlier op ≡ Some c → IsOf rules earlier op c
  path_named rules earlier op c = looked_named rules (checks_path op.act) earlier op c

  read_named : (rules : Rules) (earlier : List Op) (op : Op) (c : Clash) → read_clash opening commits (span ∷ spans) earlier op ≡ Some c → IsOf rules earlier op c
  read_named rules earlier op c = looked_named rules (is_read op.act) earlier op c

  -- the conflict at a leaf that is stale
  stale : (rules : Rules) (earlier : List Op) (op : Op) (i : ℕ) (row : Row) → checks_leafs rules op.act ≡ true → slice_get (rows_of_act op.act) i ≡ Some row → is_stale opening commits base (span ∷ spans) op.store row ≡ true
      → IsOf rules earlier op (at_row opening commits base (span ∷ spans) earlier op i)
  stale rules earlier op i row checks there is =
      let p = path_by op (Some i) in
      let here : p ≡ row.path = ap (λ (o : Option Row). option_map_or (λ (r : Row). r.path) o op.path) there in
      let t = touches_at opening commits op.store p in
      let kind = kind_by (is_some (cell (base op.store) p)) (is_some (cell (tip opening commits op.store) p)) in
      let other = not (same_cell (cell (base op.store) row.path) (cell (tip opening commits op.store) row.path)) in
      let touched = is_some (last_touch_over opening commits (span ∷ spans) op.store row.path) in
      let parts = and_parts (is_leaf row.cell) (other && touched) is in
      let (k, named) = some_of (last_touch_over opening commits (span ∷ spans) op.store row.path) (and_parts other touched parts.1).1 in
      let names : find t (reverse (numbers_over (span ∷ spans))) ≡ Some k = ap (last_touch_over opening commits (span ∷ spans) op.store) here ∙ named in
      let whole : take (length p) p ≡ p = take_all (length p) p (omega arith) in
      let found = found_in t (span ∷ spans) k (ordered_all (length commits) span spans are) names in
      let named_here : Any (IsNamedIn opening commits (record { store = op.store; path = take (length p) p; kind = kind; commit = k })) (span ∷ spans) =
      subst (λ q. Any (IsNamedIn opening commits (record { store = op.store; path = q; kind = kind; commit = k })) (span ∷ spans)) (sym whole) found in
      subst (λ (o : Option ℕ). IsOf rules earlier op (record { op = length earlier; row = Some i; depth = length p; kind = kind; commit = unwrap_or o 0 })) (sym names)
      (refl, (checks, (row, there, parts.0, ap length here)), named_here)

  leaf_named : (rules : Rules) (earlier : List Op) (op : Op) (c : Clash) → leaf_clash opening commits rules base (span ∷ spans) earlier op ≡ Some c → IsOf rules earlier op c
  leaf_named rules earlier op c =
      let at = at_row opening commits base (span ∷ spans) earlier op in
      let first = position_from (is_stale opening commits base (span ∷ spans) op.store) 0 (rows_of_act op.act) in
      elim (checks_leafs rules op.act) as (λ b. checks_leafs rules op.act ≡ b → (if b && not (is_covered earlier op.store op.path) then option_map at first else None) ≡ Some c → IsOf rules earlier op c) [
        | false ↦ λ checks e. cc
        | true ↦ λ checks. elim (not (is_covered earlier op.store op.path)) as (λ b. (if b then option_map at first else None) ≡ Some c → IsOf rules earlier op c) [
          | false ↦ λ e. cc
          | true ↦ elim first as (λ (o : Option ℕ). first ≡ o → option_map at o ≡ Some c → IsOf rules earlier op c) [
            | None ↦ λ e h. cc
            | Some i ↦ λ e h.
                let found = position_holds (is_stale opening commits base (span ∷ spans) op.store) 0 (rows_of_act op.act) i e in
                let place : i ≡ found.0 = omega (arith, found.1) in
                let there : slice_get (rows_of_act op.act) i ≡ Some found.2 = ap (slice_get (rows_of_act op.act)) place ∙ found.3 in
                subst (IsOf rules earlier op) (same_Some (at i) c h) (stale rules earlier op i found.2 checks there found.4)
          ] refl
        ]
      ] refl

  op_named : (rules : Rules) (earlier : List Op) (op : Op) (c : Clash) → op_clash opening commits rules base (span ∷ spans) earlier op ≡ Some c → IsOf rules earlier op c
  op_named rules earlier op c =
      let path = path_clash opening commits (span ∷ spans) earlier op in
      let leaf = leaf_clash opening commits rules base (span ∷ spans) earlier op in
      elim (parent_clash opening commits base (span ∷ spans) earlier op) as (λ (o : Option Clash). parent_clash opening commits base (span ∷ spans) earlier op ≡ o → option_or o (option_or path leaf) ≡ Some c → IsOf rules earlier op c) [
        | None ↦ λ e. elim path as (λ (o : Option Clash). path ≡ o → option_or o leaf ≡ Some c → IsOf rules earlier op c) [
          | None ↦ λ f h. leaf_named rules earlier op c h
          | Some d ↦ λ f h. path_named rules earlier op c (f ∙ h)
        ] refl
        | Some d ↦ λ e h. parent_named rules earlier op c (e ∙ h)
      ] refl

  abbrev IsFrom : Rules → List Op → Clash → Type 0
  IsFrom rules ops c = (op : Op) × (slice_get ops c.op ≡ Some op) × IsPlaced rules op c.depth c.row × Any (IsNamedIn opening commits (place_of op c)) (span ∷ spans)

  from_named : (rules : Rules) (earlier ops : List Op) (c : Clash) → clash_from opening commits rules base (span ∷ spans) earlier ops ≡ Some c → IsFrom rules (earlier ++ ops) c
  from_named rules earlier [] c = λ e. cc
  from_named rules earlier (op ∷ ops) c =
      elim (op_clash opening commits rules base (span ∷ spans) earlier op) as (λ (o : Option Clash). op_clash opening commits rules base (span ∷ spans) earlier op ≡ o → option_or o (clash_from opening commits rules base (span ∷ spans) (earlier ++ op ∷ []) ops) ≡ Some c
      → IsFrom rules (earlier ++ op ∷ ops) c) [
        | None ↦ λ e h. subst (λ (l : List Op). IsFrom rules l c) (append_assoc earlier (op ∷ []) ops) (from_named rules (earlier ++ op ∷ []) ops c h)
        | Some d ↦ λ e h.
            let here = op_named rules earlier op c (e ∙ h) in
            (op, ap (slice_get (earlier ++ op ∷ ops)) here.0 ∙ slice_get_end earlier ops op, here.1, here.2)
      ] refl

  reads_named : (rules : Rules) (earlier ops : List Op) (c : Clash) → reads_from opening commits (span ∷ spans) earlier ops ≡ Some c → IsFrom rules (earlier ++ ops) c
  reads_named rules earlier [] c = λ e. cc
  reads_named rules earlier (op ∷ ops) c =
      elim (read_clash opening commits (span ∷ spans) earlier op) as (λ (o : Option Clash). read_clash opening commits (span ∷ spans) earlier op ≡ o → option_or o (reads_from opening commits (span ∷ spans) (earlier ++ op ∷ []) ops) ≡ Some c
      → IsFrom rules (earlier ++ op ∷ ops) c) [
        | None ↦ λ e h. subst (λ (l : List Op). IsFrom rules l c) (append_assoc earlier (op ∷ []) ops) (reads_named rules (earlier ++ op ∷ []) ops c h)
        | Some d ↦ λ e h.
            let here = read_named rules earlier op c (e ∙ h) in
            (op, ap (slice_get (earlier ++ op ∷ ops)) here.0 ∙ slice_get_end earlier ops op, here.1, here.2)
      ] refl

  all_named : (rules : Rules) (ops : List Op) (c : Clash) → clash opening commits rules base (span ∷ spans) ops ≡ Some c → IsFrom rules ops c
  all_named rules ops c =
      let writes = clash_from opening commits rules base (span ∷ spans) [] ops in
      elim writes as (λ (o : Option Clash). writes ≡ o → option_or o (reads_from opening commits (span ∷ spans) [] ops) ≡ Some c → IsFrom rules ops c) [
        | None ↦ λ e h. reads_named rules [] ops c h
        | Some d ↦ λ e h. from_named rules [] ops c (e ∙ h)
      ] refl

-- where the base has the rows of the own commits' tree, or some of them
pub names_within : (opening : Store → List Row) (commits : List (List Op)) (rules : Rules) (base : Store → List Row) (span : Span) (spans : List Span) (ops : List Op) (c : Clash)
    → AreSpans (length commits) span spans → IsWithin base (λ s. with_own commits s (tree_at opening commits s span.from) spans) → clash opening commits rules base (span ∷ spans) ops ≡ Some c
    → (op : Op) × (slice_get ops c.op ≡ Some op) × IsPlaced rules op c.depth c.row × Any (IsNamedIn opening commits (place_of op c)) (span ∷ spans)
names_within opening commits rules base span spans ops c are agrees e = all_named opening commits base span spans are agrees rules ops c e

pub names_a_later_commit : NamesALaterCommit
names_a_later_commit opening commits rules base span spans ops c are is_base e =
    names_within opening commits rules base span spans ops c are (λ s q there. ap (λ (t : List Row). cell t q) (is_base s)) e
