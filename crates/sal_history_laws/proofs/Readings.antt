-- The reads of a transaction without conflict are the same over the newest trees.
use Rattle.std.proofs.Common.{◌≡◌, ℕ, zero, suc, ◌≤◌, Bool, true, false, List, [], ◌∷◌, ◌++◌, ◌&&◌, ◌||◌, take, Option, Some, None, refl, ap, sym, ◌∙◌, arith, if◌then◌else◌}
use Rattle.std.specs.Prelude.{is_some, slice_get}
use Rattle.std.specs.List.{list_any}
use Rattle.std.specs.Option.{option_or}
use Rattle.std.proofs.lemmas.Bool.{and_parts, or_right}
use Rattle.std.proofs.lemmas.List.{length-take, take-take}
use Rattle.std.proofs.lemmas.List.Folds.{list_any-append}
use Rattle.std.proofs.lemmas.Option.{same_Some, slice_get_within}
use Rattle.sal_types.specs.declared.value.Cell.{Cell}
use Rattle.sal_types.specs.declared.value.Store.{Store}
use Rattle.sal_types.specs.declared.value.Store.TheVariants.{Config, Oper}
use Rattle.sal_types.specs.declared.value.Step.{Step}
use Rattle.sal_types.specs.declared.row.Row.{Row}
use Rattle.sal_types.specs.Prefix.{is_prefix}
use Rattle.sal_types.specs.Tree.{cell, under, IsAscending}
use Rattle.sal_types.proofs.Trees.{same_tree}
use Rattle.sal_rows.specs.declared.op.Act.{Act}
use Rattle.sal_rows.specs.declared.op.Act.TheVariants.{Put, Merge, Delete, Read}
use Rattle.sal_rows.specs.declared.op.Op.{Op}
use Rattle.sal_rows.specs.Apply.{act_setting, apply_ops, cell_by, checks_path, is_read, last_setting, same_store, setting}
use Rattle.sal_rows.specs.PathClash.{is_covered}
use Rattle.sal_rows.specs.Quiet.{AreReadsQuiet, SameBelow}
use Rattle.sal_rows.specs.Reads.{is_known, read_of, was_read}
use Rattle.sal_rows.proofs.Applied.{cell-apply_ops, IsAscending-apply_ops}
use Rattle.sal_rows.proofs.Cells.{cell-filter, IsAscending-filter}
use Rattle.sal_rows.proofs.Quiet.{prefix_below, same_stores}
use Rattle.sal_history_laws.specs.Serial.{rows_read}
use Rattle.sal_history_laws.specs.SerialLaws.{RecordedReadsAreKnown}
use Rattle.sal_history_laws.proofs.Fronts.{front_itself}
use Rattle.sal_history_laws.proofs.Standing.{apply-read}

-- ---- lists

-- if some element passes a test, there is one with its index
some_holds : {X : Type 0} (test : X → Bool) (xs : List X) → list_any test xs ≡ true → (i : ℕ) × (x : X) × (slice_get xs i ≡ Some x) × (test x ≡ true)
some_holds test [] e = cc
some_holds {X} test (x ∷ xs) e =
    elim (test x) as (λ b. test x ≡ b → (b || list_any test xs) ≡ true → (i : ℕ) × (y : X) × (slice_get (x ∷ xs) i ≡ Some y) × (test y ≡ true)) [
      | true ↦ λ h f. (0, x, refl, h)
      | false ↦ λ h f. let rest = some_holds test xs f in (suc rest.0, rest.1, rest.2, rest.3)
    ] refl e

-- and an element that passes is some element
holds_some : {X : Type 0} (test : X → Bool) (xs : List X) (i : ℕ) (x : X) → slice_get xs i ≡ Some x → test x ≡ true → list_any test xs ≡ true
holds_some test [] i x at h = cc
holds_some test (y ∷ xs) zero x at h = ap (λ b. b || list_any test xs) (ap test (same_Some y x at) ∙ h)
holds_some test (y ∷ xs) (suc i) x at h =
    let rest = holds_some test xs i x at h in
    elim (test y) as (λ b. (b || list_any test xs) ≡ true) [ true ↦ refl | false ↦ rest ]

-- the elements of a front are elements of the list
in_front : {X : Type 0} (n : ℕ) (xs : List X) (i : ℕ) (x : X) → slice_get (take n xs) i ≡ Some x → slice_get xs i ≡ Some x
in_front zero xs i x at = cc
in_front (suc n) [] i x at = cc
in_front (suc n) (y ∷ xs) zero x at = at
in_front (suc n) (y ∷ xs) (suc i) x at = in_front n xs i x at

-- ---- rows below a path

-- trees with the same cells below a path have the same rows there
same-under : (x y : List Row) (p : List Step) → IsAscending x → IsAscending y → SameBelow p x y → under x p ≡ under y p
same-under x y p rising also same =
    same_tree (under x p) (under y p) (IsAscending-filter (is_prefix p) x rising) (IsAscending-filter (is_prefix p) y also) (λ r.
    cell-filter (is_prefix p) x r
    ∙ elim (is_prefix p r) as (λ b. is_prefix p r ≡ b → (if b then cell x r else None) ≡ (if b then cell y r else None)) [
      | true ↦ λ below. same r below
      | false ↦ λ beside. refl
    ] refl
    ∙ sym (cell-filter (is_prefix p) y r))

-- ---- covered paths

-- a put or delete sets all below its path
sets_below : (p : List Step) (act : Act) (r : List Step) → checks_path act ≡ true → is_prefix p r ≡ true → is_some (act_setting p act r) ≡ true
sets_below p (Put rows) r checks below = ap (λ b. is_some (if b then Some (cell rows r) else None)) below
sets_below p (Merge rows) r checks below = cc
sets_below p Delete r checks below = ap (λ (b : Bool). is_some (let o : Option (Option Cell) = if b then Some None else None in o)) below
sets_below p Read r checks below = cc

abbrev covers : Store → List Step → Op → Bool
covers s p op = (same_store op.store s && checks_path op.act) && is_prefix op.path p

covers_sets : (s : Store) (p r : List Step) (op : Op) → covers s p op ≡ true → is_prefix p r ≡ true → is_some (setting s op r) ≡ true
covers_sets s p r op e below =
    let (own, over) = and_parts (same_store op.store s && checks_path op.act) (is_prefix op.path p) e in
    let (mine, checks) = and_parts (same_store op.store s) (checks_path op.act) own in
    ap (λ b. is_some (if b then act_setting op.path op.act r else None)) mine ∙ sets_below op.path op.act r checks (prefix_below op.path p r over below)

some_of_or : {X : Type 0} (a b : Option X) → is_some a ≡ true → is_some (option_or a b) ≡ true
some_of_or None b e = cc
some_of_or (Some x) b e = refl

or_of_some : {X : Type 0} (a b : Option X) → is_some b ≡ true → is_some (option_or a b) ≡ true
or_of_some None b e = e
or_of_some (Some x) b e = refl

covered_sets : (ops : List Op) (s : Store) (p r : List Step) → is_covered ops s p ≡ true → is_prefix p r ≡ true → is_some (last_setting s ops r) ≡ true
covered_sets [] s p r e below = cc
covered_sets (op ∷ ops) s p r e below =
    elim (covers s p op) as (λ b. covers s p op ≡ b → (b || is_covered ops s p) ≡ true → is_some (option_or (last_setting s ops r) (setting s op r)) ≡ true) [
      | true ↦ λ here f. or_of_some (last_setting s ops r) (setting s op r) (covers_sets s p r op here below)
      | false ↦ λ other f. some_of_or (last_setting s ops r) (setting s op r) (covered_sets ops s p r f below)
    ] refl e

-- so below it the tree before makes no difference
covered_same : (x y : List Row) (ops : List Op) (s : Store) (p : List Step) → is_covered ops s p ≡ true → SameBelow p (apply_ops x s ops) (apply_ops y s ops)
covered_same x y ops s p e r below =
    cell-apply_ops x s ops r
    ∙ elim (last_setting s ops r) as (λ (o : Option (Option Cell)). is_some o ≡ true → cell_by o (cell x r) ≡ cell_by o (cell y r)) [
      | None ↦ λ f. cc
      | Some c ↦ λ f. refl
    ] (covered_sets ops s p r e below)
    ∙ sym (cell-apply_ops y s ops r)

-- a path below a covered one is covered, also by more operations
covered_below : (n : ℕ) (ops : List Op) (s : Store) (q p : List Step) → is_prefix q p ≡ true → is_covered (take n ops) s q ≡ true → is_covered ops s p ≡ true
covered_below n ops s q p above e =
    let (i, op, at, here) = some_holds (covers s q) (take n ops) e in
    let (own, over) = and_parts (same_store op.store s && checks_path op.act) (is_prefix op.path q) here in
    let covering : covers s p op ≡ true = (λ k. own k && prefix_below op.path q p over above k) in
    holds_some (covers s p) ops i op (in_front n ops i op at) covering

-- ---- reads

module _ (base tip : Store → List Row) (ops : List Op) (quiet : AreReadsQuiet base tip ops) (n : ℕ) (s : Store) (p : List Step) where
  abbrev earlier : List Op
  earlier = take n ops

  abbrev Alike : Type 0
  Alike = SameBelow p (apply_ops (base s) s earlier) (apply_ops (tip s) s earlier)

  -- below what was read and not covered the same operations leave the same
  uncovered_same : (q : List Step) → is_prefix q p ≡ true → SameBelow q (base s) (tip s) → Alike
  uncovered_same q above same r below =
      cell-apply_ops (base s) s earlier r ∙ ap (cell_by (last_setting s earlier r)) (same r (prefix_below q p r above below)) ∙ sym (cell-apply_ops (tip s) s earlier r)

  read_same : was_read earlier s p ≡ true → Alike
  read_same e =
      let (i, op, at, here) = some_holds (λ (x : Op). (same_store x.store s && is_read x.act) && is_prefix x.path p) earlier e in
      let (own, above) = and_parts (same_store op.store s && is_read op.act) (is_prefix op.path p) here in
      let (mine, reads) = and_parts (same_store op.store s) (is_read op.act) own in
      let store : op.store ≡ s = same_stores op.store s mine in
      let short : i ≤ n = omega (arith, slice_get_within earlier i op at, length-take n ops) in
      let front : take i earlier ≡ take i ops = take-take i n ops short in
      elim (is_covered (take i earlier) s op.path) as (λ b. is_covered (take i earlier) s op.path ≡ b → Alike) [
        | true ↦ λ covered. covered_same (base s) (tip s) earlier s p (covered_below i earlier s op.path p above covered)
        | false ↦ λ open_there.
            let uncovered : is_covered (take i ops) op.store op.path ≡ false = (λ k. is_covered (sym front k) (store k) op.path) ∙ open_there in
            uncovered_same op.path above (λ r below. ap (λ t. cell (base t) r) (sym store) ∙ quiet i op (in_front n ops i op at) reads uncovered r below ∙ ap (λ t. cell (tip t) r) store)
      ] refl

  known_same : is_known earlier s p ≡ true → Alike
  known_same e =
      elim (is_covered earlier s p) as (λ b. is_covered earlier s p ≡ b → (b || was_read earlier s p) ≡ true → Alike) [
        | true ↦ λ covered f. covered_same (base s) (tip s) earlier s p covered
        | false ↦ λ uncovered f. read_same f
      ] refl e

  pub known-alike : is_known earlier s p ≡ true → rows_read tip ops n s p ≡ rows_read base ops n s p
  known-alike e =
      sym (same-under (apply_ops (base s) s earlier) (apply_ops (tip s) s earlier) p (IsAscending-apply_ops (base s) s earlier) (IsAscending-apply_ops (tip s) s earlier) (known_same e))

-- ---- recorded reads

same_store-itself : (s : Store) → same_store s s ≡ true
same_store-itself s = elim s as (λ t. same_store t t ≡ true) [ Config ↦ refl | Oper ↦ refl ]

pub recorded_known : RecordedReadsAreKnown
recorded_known tree t s path ops =
    elim (is_known ops s path) as (λ b. is_known ops s path ≡ b → (is_known (if b then ops else ops ++ read_of s path ∷ []) s path ≡ true) × (apply_ops tree t (if b then ops else ops ++ read_of s path ∷ []) ≡ apply_ops tree t ops)) [
      | true ↦ λ known. (known, refl)
      | false ↦ λ unknown. (now_known, apply-read tree t ops (read_of s path) refl)
    ] refl
  where
    reads : Op → Bool
    reads op = (same_store op.store s && is_read op.act) && is_prefix op.path path

    own : ((same_store s s && true) && is_prefix path path) ≡ true
    own = (λ k. (same_store-itself s k && true) && front_itself path k)

    was : was_read (ops ++ read_of s path ∷ []) s path ≡ true
    was = list_any-append reads ops (read_of s path ∷ []) ∙ or_right (list_any reads ops) (reads (read_of s path) || false) (ap (λ b. b || false) own)

    now_known : is_known (ops ++ read_of s path ∷ []) s path ≡ true
    now_known = or_right (is_covered (ops ++ read_of s path ∷ []) s path) (was_read (ops ++ read_of s path ∷ []) s path) was
