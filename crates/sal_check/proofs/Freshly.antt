-- Two entries agree exactly if a fresh one agrees with another one, if none did before.
use Rattle.std.proofs.Common.{◌≡◌, ℕ, Bool, true, false, cond, not, ◌&&◌, ◌||◌, List, [], ◌∷◌, ◌++◌, inl, inr, Option, Some, None, refl, sym, ap, subst, ◌∙◌, if◌then◌else◌}
use Rattle.std.proofs.lemmas.Bool.{or_left}
use Rattle.std.specs.Prelude.{T, is_some}
use Rattle.std.specs.List.{list_any, flat_map}
use Rattle.std.specs.Option.{option_to_list}
use Rattle.std.specs.FinMap.{find, is_sorted}
use Rattle.sal_types.specs.declared.value.Step.{Step}
use Rattle.sal_types.specs.declared.value.Cell.{Cell}
use Rattle.sal_types.specs.Order.{step_cmp}
use Rattle.sal_node.specs.Tree.{Tree}
use Rattle.sal_tree.specs.Grow.{kid, kids_in, IsSound}
use Rattle.sal_tree.proofs.Laws.{eq, same, sorted-kids}
use Rattle.sal_check.specs.Near.{KeepsAt, is_new, leafs_of, differs, is_fresh, fresh_of, other_of, is_among, agree_freshly}
use Rattle.sal_check.specs.Nodes.{seen_in}
use Rattle.sal_rules.specs.Rules.{cells_at, has_double, same_cells}
use Rattle.sal_check.specs.Uniques.{combination, all_combinations}
use Rattle.sal_check.proofs.Doubles.{same-IsEquivalence}
use Rattle.sal_check.proofs.Members.{In, In-flat, In-from}
use Rattle.sal_check.proofs.Twins.{Entries, IsShort, Twins, any-in, any-out, double-in, double-out}
use Rattle.sal_check.proofs.Walked.{find-in}

-- ---- one entry

short-option : (o : Option (List Cell)) → IsShort (option_to_list o)
short-option None = inl refl
short-option (Some x) = inr (x, refl)

short-if : (b : Bool) (xs : List (List Cell)) → IsShort xs → IsShort (if b then xs else [])
short-if true xs h = h
short-if false xs h = inl refl

short-unless : (b : Bool) (xs : List (List Cell)) → IsShort xs → IsShort (if b then [] else xs)
short-unless true xs h = inl refl
short-unless false xs h = h

combination-short : (ways : List (List Step)) (e : Step × Tree) → IsShort (combination ways e)
combination-short ways e = short-if (is_some e.1.cell) (option_to_list (cells_at (seen_in (Some e.1)) ways)) (short-option (cells_at (seen_in (Some e.1)) ways))

-- the cells of an entry are its leafs
leafs-in : (ways : List (List Step)) (e : Step × Tree) (x : List Cell) → In x (combination ways e) → leafs_of ways (Some e.1) ≡ Some x
leafs-in ways e x i = by_cell (is_some e.1.cell) (cells_at (seen_in (Some e.1)) ways) i
  where
    by_cell : (b : Bool) (o : Option (List Cell)) → In x (if b then option_to_list o else []) → (if b then o else None) ≡ Some x
    by_cell true None j = absurd j
    by_cell true (Some y) (inl h) = ap (λ (c : List Cell). Some c) (sym h)
    by_cell true (Some y) (inr j) = absurd j
    by_cell false o j = absurd j

in-leafs : (ways : List (List Step)) (e : Step × Tree) (x : List Cell) → leafs_of ways (Some e.1) ≡ Some x → In x (combination ways e)
in-leafs ways e x is = by_cell (is_some e.1.cell) (cells_at (seen_in (Some e.1)) ways) is
  where
    by_cell : (b : Bool) (o : Option (List Cell)) → (if b then o else None) ≡ Some x → In x (if b then option_to_list o else [])
    by_cell true None h = cc
    by_cell true (Some y) h = inl (let h2 : Some y ≡ Some x = h in let it : x ≡ y = cc in it)
    by_cell false o h = cc

pub flat-combinations : (ways : List (List Step)) (es : Entries) → all_combinations ways es ≡ flat_map (combination ways) es
flat-combinations ways [] = refl
flat-combinations ways (e ∷ es) = ap (λ (l : List (List Cell)). combination ways e ++ l) (flat-combinations ways es)

find-is : (x : Step) (es : Entries) (t : Tree) → find step_cmp x es ≡ Some t → In (x, t) es
find-is x [] t e = cc
find-is x (d ∷ es) t e = elim (eq x d.0) as (λ b. eq x d.0 ≡ b → cond b (Some d.1) (find step_cmp x es) ≡ Some t → In (x, t) (d ∷ es)) [
  | true ↦ λ h k. inl (λ i. (same x d.0 h i, (let it : t ≡ d.1 = cc in it) i))
  | false ↦ λ h k. inr (find-is x es t k)
] refl e

module _ (stamps : List ℕ) (ways : List (List Step)) (before : Option Tree) (now : Option Tree) (was : IsSound before) (good : IsSound now) (keeps : KeepsAt stamps before now) where
  abbrev es : Entries
  es = kids_in now

  sorted : T (is_sorted step_cmp es)
  sorted = sorted-kids now good

  abbrev fresh : Step × Tree → Bool
  fresh = is_fresh stamps ways before

  abbrev freshes : List (List Cell)
  freshes = flat_map (fresh_of stamps ways before) es

  abbrev others : List (List Cell)
  others = flat_map (other_of stamps ways before) es

  in-fresh : (e : Step × Tree) (x : List Cell) → In x (fresh_of stamps ways before e) → (fresh e ≡ true) × In x (combination ways e)
  in-fresh e x i = elim (fresh e) as (λ b. fresh e ≡ b → In x (if b then combination ways e else []) → (fresh e ≡ true) × In x (combination ways e)) [ true ↦ λ h j. (h, j) | false ↦ λ h j. absurd j ] refl i

  in-other : (e : Step × Tree) (x : List Cell) → In x (other_of stamps ways before e) → (fresh e ≡ false) × In x (combination ways e)
  in-other e x i = elim (fresh e) as (λ b. fresh e ≡ b → In x (if b then [] else combination ways e) → (fresh e ≡ false) × In x (combination ways e)) [ true ↦ λ h j. absurd j | false ↦ λ h j. (h, j) ] refl i

  fresh-in : (e : Step × Tree) (x : List Cell) → fresh e ≡ true → In x (combination ways e) → In x (fresh_of stamps ways before e)
  fresh-in e x h i = subst (λ b. In x (if b then combination ways e else [])) (sym h) i

  other-in : (e : Step × Tree) (x : List Cell) → fresh e ≡ false → In x (combination ways e) → In x (other_of stamps ways before e)
  other-in e x h i = subst (λ b. In x (if b then [] else combination ways e)) (sym h) i

  -- ---- an entry that is not fresh had the same cells before

  not_not : (b : Bool) → not b ≡ false → b ≡ true
  not_not true e = refl
  not_not false e = cc

  had_by : (o : Option (List Cell)) (x : List Cell) → differs o (Some x) ≡ false → (y : List Cell) × (o ≡ Some y) × (same_cells y x ≡ true)
  had_by None x e = cc
  had_by (Some y) x e = (y, refl, not_not (same_cells y x) e)

  some_tree : (o : Option Tree) (y : List Cell) → leafs_of ways o ≡ Some y → (t : Tree) × (o ≡ Some t)
  some_tree None y e = cc
  some_tree (Some t) y e = (t, refl)

  had : (e : Step × Tree) (x : List Cell) → In e es → fresh e ≡ false → In x (combination ways e) → (t : Tree) × (kid before e.0 ≡ Some t) × ((y : List Cell) × In y (combination ways (e.0, t)) × (same_cells y x ≡ true))
  had e x i stale has = elim (is_new stamps e.1.stamp) as (λ b. is_new stamps e.1.stamp ≡ b → (b && differs (leafs_of ways (kid before e.0)) (leafs_of ways (Some e.1))) ≡ false → (t : Tree) × (kid before e.0 ≡ Some t) × ((y : List Cell) × In y (combination ways (e.0, t)) × (same_cells y x ≡ true))) [
    | true ↦ λ new alike.
        let (y, is, tied) = had_by (leafs_of ways (kid before e.0)) x (ap (differs (leafs_of ways (kid before e.0))) (sym (leafs-in ways e x has)) ∙ alike) in
        let (t, there) = some_tree (kid before e.0) y is in
        (t, there, (y, in-leafs ways (e.0, t) y (ap (leafs_of ways) (sym there) ∙ is), tied))
    | false ↦ λ old h. (e.1, keeps (e.0 ∷ []) e.1 (find-in e.0 e.1 es sorted i) old, (x, has, same-IsEquivalence.refl x))
  ] refl stale

  -- ---- so those do not agree

  chain : (a b c d : List Cell) → same_cells a b ≡ true → same_cells b c ≡ true → same_cells d c ≡ true → same_cells a d ≡ true
  chain a b c d one two three =
      let ac : same_cells a c ≡ true = same-IsEquivalence.congr a b c one ∙ two in
      same-IsEquivalence.symm a d ∙ same-IsEquivalence.congr d c a three ∙ same-IsEquivalence.symm c a ∙ ac

  stale-twins : Twins (other_of stamps ways before) es → has_double (flat_map (combination ways) (kids_in before)) ≡ true
  stale-twins t =
      let one = in-other t.one t.cells t.has_one in
      let two = in-other t.other t.others t.has_other in
      let (t1, at1, first) = had t.one t.cells t.in_one one.0 one.1 in
      let (t2, at2, second) = had t.other t.others t.in_other two.0 two.1 in
      let (y1, in1, same1) = first in
      let (y2, in2, same2) = second in
      double-in (combination ways) (kids_in before) (t.one.0, t1) (t.other.0, t2) y1 y2 (find-is t.one.0 (kids_in before) t1 at1) (find-is t.other.0 (kids_in before) t2 at2) t.apart in1 in2
      (chain y1 t.cells t.others y2 same1 t.alike same2)

  other-short : (e : Step × Tree) → IsShort (other_of stamps ways before e)
  other-short e = short-unless (fresh e) (combination ways e) (combination-short ways e)

  fresh-short : (e : Step × Tree) → IsShort (fresh_of stamps ways before e)
  fresh-short e = short-if (fresh e) (combination ways e) (combination-short ways e)

  module _ (none : has_double (all_combinations ways (kids_in before)) ≡ false) where
    no-stale : Twins (other_of stamps ways before) es → ⊥
    no-stale t = let it : false ≡ true = sym none ∙ ap has_double (flat-combinations ways (kids_in before)) ∙ stale-twins t in cc

    -- ---- the two tests

    abbrev answer : Bool
    answer = has_double freshes || list_any (is_among freshes) others

    right_true : (a b : Bool) → b ≡ true → (a || b) ≡ true
    right_true true b e = refl
    right_true false b e = e

    mixed : (e d : Step × Tree) (x y : List Cell) → In e es → In d es → fresh e ≡ true → fresh d ≡ false → In x (combination ways e) → In y (combination ways d) → same_cells y x ≡ true → answer ≡ true
    mixed e d x y i j new old has also alike =
        right_true (has_double freshes) (list_any (is_among freshes) others)
        (any-in (is_among freshes) others y (In-flat (other_of stamps ways before) es d y j (other-in d y old also))
        (any-in (same_cells y) freshes x (In-flat (fresh_of stamps ways before) es e x i (fresh-in e x new has)) alike))

    told : Twins (combination ways) es → answer ≡ true
    told t = by_tests (fresh t.one) (fresh t.other) refl refl
      where
        by_tests : (a b : Bool) → fresh t.one ≡ a → fresh t.other ≡ b → answer ≡ true
        by_tests true true new also = or_left (has_double freshes) (list_any (is_among freshes) others) (double-in (fresh_of stamps ways before) es t.one t.other t.cells t.others t.in_one t.in_other t.apart (fresh-in t.one t.cells new t.has_one) (fresh-in t.other t.others also t.has_other) t.alike)
        by_tests true false new old = mixed t.one t.other t.cells t.others t.in_one t.in_other new old t.has_one t.has_other (same-IsEquivalence.symm t.others t.cells ∙ t.alike)
        by_tests false true old new = mixed t.other t.one t.others t.cells t.in_other t.in_one new old t.has_other t.has_one t.alike
        by_tests false false old also = absurd (no-stale (record { one = t.one; other = t.other; cells = t.cells; others = t.others; in_one = t.in_one; in_other = t.in_other; apart = t.apart; has_one = other-in t.one t.cells old t.has_one; has_other = other-in t.other t.others also t.has_other; alike = t.alike }))

    fresh-double : Twins (fresh_of stamps ways before) es → has_double (flat_map (combination ways) es) ≡ true
    fresh-double t = double-in (combination ways) es t.one t.other t.cells t.others t.in_one t.in_other t.apart (in-fresh t.one t.cells t.has_one).1 (in-fresh t.other t.others t.has_other).1 t.alike

    apart-by : (e d : Step × Tree) → In e es → In d es → fresh e ≡ true → fresh d ≡ false → eq d.0 e.0 ≡ false
    apart-by e d i j new old = elim (eq d.0 e.0) as (λ b. eq d.0 e.0 ≡ b → b ≡ false) [
      | true ↦ λ h.
          let steps : d.0 ≡ e.0 = same d.0 e.0 h in
          let one : find step_cmp d.0 es ≡ Some d.1 = find-in d.0 d.1 es sorted j in
          let two : find step_cmp d.0 es ≡ Some e.1 = ap (λ (x : Step). find step_cmp x es) steps ∙ find-in e.0 e.1 es sorted i in
          let both : Some d.1 ≡ Some e.1 = sym one ∙ two in
          let trees : d.1 ≡ e.1 = cc in
          let no : false ≡ true = sym old ∙ (λ k. fresh (steps k, trees k)) ∙ new in
          cc
      | false ↦ λ h. refl
    ] refl

    among-double : list_any (is_among freshes) others ≡ true → has_double (flat_map (combination ways) es) ≡ true
    among-double h =
        let (y, in_others, among) = any-out (is_among freshes) others h in
        let (x, in_freshes, alike) = any-out (same_cells y) freshes among in
        let (d, j, has) = In-from (other_of stamps ways before) es y in_others in
        let (e, i, also) = In-from (fresh_of stamps ways before) es x in_freshes in
        let stale = in-other d y has in
        let new = in-fresh e x also in
        double-in (combination ways) es d e y x j i (apart-by e d i j new.0 stale.0) stale.1 new.1 alike

    pub agree-freshly : agree_freshly stamps ways before es ≡ has_double (all_combinations ways es)
    agree-freshly = by_tests (has_double freshes) (list_any (is_among freshes) others) (has_double (flat_map (combination ways) es)) refl refl refl ∙ ap has_double (sym (flat-combinations ways es))
      where
        by_tests : (a b c : Bool) → has_double freshes ≡ a → list_any (is_among freshes) others ≡ b → has_double (flat_map (combination ways) es) ≡ c → answer ≡ has_double (flat_map (combination ways) es)
        by_tests true b c x y z = or_left (has_double freshes) (list_any (is_among freshes) others) x ∙ sym (fresh-double (double-out (fresh_of stamps ways before) fresh-short es sorted x))
        by_tests false true c x y z = right_true (has_double freshes) (list_any (is_among freshes) others) y ∙ sym (among-double y)
        by_tests false false true x y z = told (double-out (combination ways) (combination-short ways) es sorted z) ∙ sym z
        by_tests false false false x y z = (λ i. x i || y i) ∙ sym z
