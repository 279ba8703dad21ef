-- A commit that a transaction did not see lies in one of its spans; and where no span holds a change, the commit left none.
use Rattle.std.proofs.Common.{◌≡◌, ◌⊎◌, inl, inr, ℕ, zero, suc, ◌+◌, ◌-◌, ◌<◌, ◌≤◌, Bool, true, false, List, [], ◌∷◌, ◌&&◌, ◌||◌, Option, None, Some, refl, ap, sym, ◌∙◌, subst, cond, arith}
use Rattle.std.specs.Prelude.{find, is_some, slice_get}
use Rattle.std.specs.List.{list_any}
use Rattle.std.proofs.lemmas.Bool.{and_parts, cases_lt, cond_both, or_parts}
use Rattle.sal_types.specs.declared.value.Store.{Store}
use Rattle.sal_types.specs.declared.value.Step.{Step}
use Rattle.sal_types.specs.declared.row.Row.{Row}
use Rattle.sal_types.specs.Prefix.{is_prefix}
use Rattle.sal_types.specs.Tree.{has}
use Rattle.sal_rows.specs.declared.clash.Span.{Span}
use Rattle.sal_rows.specs.declared.op.Op.{Op}
use Rattle.sal_rows.specs.Apply.{act_setting, rows_of_act, same_store}
use Rattle.sal_rows.specs.Commits.{commit_touches, is_unchanged, numbers_after, numbers_in, touches_at, tree_at, unchanged_by}
use Rattle.sal_rows.specs.Spans.{is_own, spans_between}
use Rattle.sal_rows.specs.Touch.{op_touches, touches}
use Rattle.sal_rows.proofs.Quiet.{prefix_below}
use Rattle.sal_history.proofs.Spans.{own_from}

-- ---- searches

-- where a search finds nothing, its first element does not pass, and the rest has none that does
find_rest : {X : Type 0} (test : X → Bool) (x : X) (xs : List X) → find test (x ∷ xs) ≡ None → (test x ≡ false) × (find test xs ≡ None)
find_rest test x xs e = elim (test x) as (λ b. cond b (Some x) (find test xs) ≡ None → (b ≡ false) × (find test xs ≡ None)) [ true ↦ λ f. cc | false ↦ λ f. (refl, f) ] e

-- a weaker test that no element passes
none_pass : {X : Type 0} (f g : X → Bool) → ((x : X) → f x ≡ true → g x ≡ true) → (xs : List X) → list_any g xs ≡ false → list_any f xs ≡ false
none_pass f g implies [] none = refl
none_pass f g implies (x ∷ xs) none =
    let parts = or_parts (g x) (list_any g xs) none in
    elim (f x) as (λ b. f x ≡ b → (b || list_any f xs) ≡ false) [
      | true ↦ λ e. let both : true ≡ false = sym (implies x e) ∙ parts.0 in cc
      | false ↦ λ e. none_pass f g implies xs parts.1
    ] refl

-- a number of a span at which a test gives false
none_at : (test : ℕ → Bool) (n a k : ℕ) → list_any test (numbers_after a n) ≡ false → a < k → k ≤ a + n → test k ≡ false
none_at test zero a k none past upto = absurd (omega (arith, past, upto))
none_at test (suc n) a k none past upto =
    let parts = or_parts (test (a + 1)) (list_any test (numbers_after (a + 1) n)) none in
    elim (cases_lt (a + 1) k) [
      | inl later ↦ none_at test n (a + 1) k parts.1 later (omega (arith, upto))
      | inr here ↦ let same : a + 1 ≡ k = omega (arith, here, past) in ap test (sym same) ∙ parts.0
    ]

-- ---- the run of commits around one

-- a span that has the commit, and no own one
pub record IsAround (chain : Option ℕ) (chains : List (Option ℕ)) (a k t : ℕ) (span : Span) : Type 0 where
  pub after : a ≤ span.from
  pub past : span.from < k
  pub upto : k ≤ span.to
  pub ends : span.to ≤ t
  pub foreign : (m : ℕ) → span.from < m → m ≤ span.to → is_own chain chains m ≡ false

module _ (chain : Option ℕ) (chains : List (Option ℕ)) (test : Span → Bool) (k : ℕ) where
  abbrev Found : ℕ → ℕ → Type 0
  Found a t = (span : Span) × IsAround chain chains a k t span × (test span ≡ false)

  wider : (a b t : ℕ) → a ≤ b → Found b t → Found a t
  wider a b t le found =
      let is = found.1 in
      (found.0, record { after = omega (arith, le, is.after); past = is.past; upto = is.upto; ends = is.ends; foreign = is.foreign }, found.2)

  pub around : (n a b t : ℕ) → a ≤ b → b + n ≡ t → ((j : ℕ) → a < j → j ≤ b → is_own chain chains j ≡ false) → a < k → k ≤ t → is_own chain chains k ≡ false
      → find test (spans_between a (own_from chain chains b n) t) ≡ None → Found a t
  around zero a b t le e none past upto foreign nothing =
      let span : Span = record { from = a; to = t } in
      let end : t ≤ b = omega (arith, e) in
      (span, record { after = omega arith; past = past; upto = upto; ends = omega arith; foreign = λ m low high. none m low (omega (arith, high, end)) }, (find_rest test span [] nothing).0)
  around (suc n) a b t le e none past upto foreign nothing =
      cond_both (is_own chain chains (b + 1)) ((b + 1) ∷ own_from chain chains (b + 1) n) (own_from chain chains (b + 1) n)
      (λ (cs : List ℕ). find test (spans_between a cs t) ≡ None → Found a t)
      (λ own nothing.
      let span : Span = record { from = a; to = b + 1 - 1 } in
      let parts = find_rest test span (spans_between (b + 1) (own_from chain chains (b + 1) n) t) nothing in
      elim (cases_lt b k) [
        | inl later ↦
            let apart : b + 1 < k = beyond (is_own chain chains (b + 1)) own later in
            wider a (b + 1) t (omega (arith, le))
            (around n (b + 1) (b + 1) t (omega arith) (omega (arith, e)) (λ j low high. absurd (omega (arith, low, high))) apart upto foreign parts.1)
        | inr here ↦
            (span, record { after = omega arith; past = past; upto = omega (arith, here); ends = omega (arith, e); foreign = λ m low high. none m low (omega (arith, high)) }, parts.0)
      ])
      (λ other nothing.
      around n a (b + 1) t (omega (arith, le)) (omega (arith, e)) (λ j low high.
      elim (cases_lt b j) [
        | inl past_b ↦ let last : b + 1 ≡ j = omega (arith, past_b, high) in subst (λ m. is_own chain chains m ≡ false) last other
        | inr before ↦ none j low before
      ]) past upto foreign nothing)
      nothing
    where
      beyond : (o : Bool) → is_own chain chains (b + 1) ≡ true → b < k → b + 1 < k
      beyond o own later = elim (cases_lt (b + 1) k) [
        | inl more ↦ more
        | inr at ↦
            let same : b + 1 ≡ k = omega (arith, later, at) in
            let both : true ≡ false = sym own ∙ ap (is_own chain chains) same ∙ foreign in
            cc
      ]

-- ---- what a commit leaves

-- what touches a path touches each path above it
op_above : (before : List Row) (op : Op) (q p : List Step) → is_prefix q p ≡ true → op_touches before op q ≡ false → op_touches before op p ≡ false
op_above before op q p above none =
    let parts = or_parts (has (rows_of_act op.act) q) (list_any (λ row. is_prefix q row.path && is_some (act_setting op.path op.act row.path)) before) none in
    let rows : has (rows_of_act op.act) p ≡ false =
    none_pass (λ (row : Row). is_prefix p row.path) (λ (row : Row). is_prefix q row.path) (λ row below. prefix_below q p row.path above below) (rows_of_act op.act) parts.0 in
    let set : list_any (λ (row : Row). is_prefix p row.path && is_some (act_setting op.path op.act row.path)) before ≡ false =
    none_pass (λ (row : Row). is_prefix p row.path && is_some (act_setting op.path op.act row.path)) (λ (row : Row). is_prefix q row.path && is_some (act_setting op.path op.act row.path))
    (λ row both.
    let two = and_parts (is_prefix p row.path) (is_some (act_setting op.path op.act row.path)) both in
    λ i. prefix_below q p row.path above two.0 i && two.1 i) before parts.1 in
    λ i. rows i || set i

touches_above : (before : List Row) (s : Store) (ops : List Op) (q p : List Step) → is_prefix q p ≡ true → touches before s ops q ≡ false → touches before s ops p ≡ false
touches_above before s [] q p above none = refl
touches_above before s (op ∷ ops) q p above none =
    let parts = or_parts (same_store op.store s && op_touches before op q) (touches before s ops q) none in
    let here : (same_store op.store s && op_touches before op p) ≡ false =
    elim (same_store op.store s) as (λ b. (b && op_touches before op q) ≡ false → (b && op_touches before op p) ≡ false) [ true ↦ λ f. op_above before op q p above f | false ↦ λ f. refl ] parts.0 in
    λ i. here i || touches_above before s ops q p above parts.1 i

commit_above : (before : List Row) (s : Store) (q p : List Step) (o : Option (List Op)) → is_prefix q p ≡ true → commit_touches before s q o ≡ false → commit_touches before s p o ≡ false
commit_above before s q p None above none = refl
commit_above before s q p (Some ops) above none = touches_above before s ops q p above none

has_above : (tree : List Row) (q p : List Step) → is_prefix q p ≡ true → has tree q ≡ false → has tree p ≡ false
has_above tree q p above none = none_pass (λ (row : Row). is_prefix p row.path) (λ (row : Row). is_prefix q row.path) (λ row below. prefix_below q p row.path above below) tree none

module _ (opening : Store → List Row) (cs : List (List Op)) (s : Store) (q p : List Step) (above : is_prefix q p ≡ true) where
  -- over an unchanged span at or above the path: the commit touched nothing there, or the path is absent at both ends
  pub left_none : (k : ℕ) (span : Span) → span.from < k → k ≤ span.to → is_unchanged opening cs s q span ≡ true
      → (touches_at opening cs s p k ≡ false) ⊎ ((has (tree_at opening cs s span.from) p ≡ false) × (has (tree_at opening cs s span.to) p ≡ false))
  left_none k span past upto unchanged =
      by (has (tree_at opening cs s span.from) q) (has (tree_at opening cs s span.to) q) (list_any (touches_at opening cs s q) (numbers_in span)) refl refl refl unchanged
    where
      by : (was is touched : Bool) → has (tree_at opening cs s span.from) q ≡ was → has (tree_at opening cs s span.to) q ≡ is → list_any (touches_at opening cs s q) (numbers_in span) ≡ touched
          → unchanged_by was is touched ≡ true → (touches_at opening cs s p k ≡ false) ⊎ ((has (tree_at opening cs s span.from) p ≡ false) × (has (tree_at opening cs s span.to) p ≡ false))
      by false false touched was is touch e = inr (has_above (tree_at opening cs s span.from) q p above was, has_above (tree_at opening cs s span.to) q p above is)
      by false true touched was is touch e = cc
      by true false touched was is touch e = cc
      by true true true was is touch e = cc
      by true true false was is touch e =
          let end : k ≤ span.from + (span.to - span.from) = omega (arith, past, upto) in
          inl (commit_above (tree_at opening cs s (k - 1)) s q p (slice_get cs (k - 1)) above (none_at (touches_at opening cs s q) (span.to - span.from) span.from k touch past end))
