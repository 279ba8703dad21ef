-- The spans of a submission: that they are spans, that they have no own commit, and the effect of the own commits on a tree.
use Rattle.std.proofs.Common.{◌≡◌, ℕ, zero, suc, ◌+◌, ◌-◌, ◌<◌, ◌≤◌, true, false, List, [], ◌∷◌, length, drop, Option, None, Some, refl, ap, sym, ◌∙◌, subst, cond, arith, inl, inr, ◌⊎◌}
use Rattle.std.specs.Prelude.{Any, slice_get, unwrap_or, map, if◌then◌else◌}
use Rattle.std.specs.List.{filter, fold, slice_index_or}
use Rattle.std.specs.Option.{option_map}
use Rattle.std.proofs.lemmas.Bool.{cases_lt, cond_both}
use Rattle.std.proofs.lemmas.List.{drop_all}
use Rattle.std.proofs.lemmas.Option.{none-some, same_Some, slice_get_cases, slice_get-map}
use Rattle.sal_types.specs.declared.value.Store.{Store}
use Rattle.sal_types.specs.declared.row.Row.{Row}
use Rattle.sal_rows.specs.declared.op.Op.{Op}
use Rattle.sal_rows.specs.declared.clash.Span.{Span}
use Rattle.sal_rows.specs.Apply.{apply_ops}
use Rattle.sal_rows.specs.Commits.{numbers_after}
use Rattle.sal_rows.specs.Quiet.{AreSpans, with_own}
use Rattle.sal_rows.specs.Spans.{is_of_chain, is_own, spans_between}
use Rattle.sal_history.specs.Submissions.{Sent, is_in}

-- ---- lists

-- a property of some element of a one-element list is one of that element
pub any_of_one : {X : Type 0} (P : X → Type 0) (x : X) → Any P (x ∷ []) → P x
any_of_one {X} P x a = at a.0 a.1 a.2 a.3 a.4
  where
    at : (k : ℕ) (y : X) → k < length (x ∷ []) → slice_index_or (x ∷ []) k y ≡ y → P y → P x
    at zero y inside is p = subst P (sym is) p
    at (suc k) y inside is p = absurd (omega (arith, inside))

-- a property of some element is one of the first or of a later one
any_split : {X : Type 0} (P : X → Type 0) (x : X) (xs : List X) → Any P (x ∷ xs) → P x ⊎ Any P xs
any_split {X} P x xs a = at a.0 a.1 a.2 a.3 a.4
  where
    at : (k : ℕ) (y : X) → k < length (x ∷ xs) → slice_index_or (x ∷ xs) k y ≡ y → P y → P x ⊎ Any P xs
    at zero y inside is p = inl (subst P (sym is) p)
    at (suc k) y inside is p = inr (k, y, omega (arith, inside), is, p)

-- the elements from a place on
drop_more : {X : Type 0} (xs : List X) (i : ℕ) (x : X) → slice_get xs i ≡ Some x → drop i xs ≡ x ∷ drop (i + 1) xs
drop_more [] i x e = absurd (none-some x e)
drop_more (y ∷ xs) zero x e = ap (λ z. z ∷ xs) (same_Some y x e)
drop_more (y ∷ xs) (suc i) x e =
    let next : suc (i + 1) ≡ suc i + 1 = omega arith in
    drop_more xs i x e ∙ ap (λ k. x ∷ drop k (y ∷ xs)) next

-- ---- the first span and the others

-- the end of the span before these own commits
abbrev end_of : List ℕ → ℕ → ℕ
end_of [] t = t
end_of (c ∷ cs) t = c - 1

abbrev pub first : ℕ → List ℕ → ℕ → Span
first a cs t = record { from = a; to = end_of cs t }

abbrev pub rest : List ℕ → ℕ → List Span
rest [] t = []
rest (c ∷ cs) t = first c cs t ∷ rest cs t

pub split : (a : ℕ) (cs : List ℕ) (t : ℕ) → spans_between a cs t ≡ first a cs t ∷ rest cs t
split a [] t = refl
split a (c ∷ cs) t = ap (λ (l : List Span). first a (c ∷ cs) t ∷ l) (split c cs t)

module _ (chain : Option ℕ) (chains : List (Option ℕ)) where
  -- the chain's own of the n commits after b
  abbrev pub own_from : ℕ → ℕ → List ℕ
  own_from b n = filter (is_own chain chains) (numbers_after b n)

  pub are : (n a b t : ℕ) → a ≤ b → b + n ≡ t → AreSpans t (first a (own_from b n) t) (rest (own_from b n) t)
  are zero a b t le e = (omega (arith, le, e), refl)
  are (suc n) a b t le e =
      elim (is_own chain chains (b + 1)) as (λ o. AreSpans t (first a (cond o ((b + 1) ∷ own_from (b + 1) n) (own_from (b + 1) n)) t) (rest (cond o ((b + 1) ∷ own_from (b + 1) n) (own_from (b + 1) n)) t)) [
        | true ↦ (omega (arith, le), omega arith, are n (b + 1) (b + 1) t (omega arith) (omega (arith, e)))
        | false ↦ are n a (b + 1) t (omega (arith, le)) (omega (arith, e))
      ]

  -- the number is in the span, and something else holds
  abbrev Lies : Type 0 → ℕ → Span → Type 0
  Lies Q k span = (span.from < k) × (k ≤ span.to) × Q

  -- a number in one of the spans is after the base, and not the chain's own
  pub lies : (Q : Type 0) (k n a b t : ℕ) → a ≤ b → b + n ≡ t → ((j : ℕ) → a < j → j ≤ b → is_own chain chains j ≡ false)
      → Any (Lies Q k) (first a (own_from b n) t ∷ rest (own_from b n) t) → (a < k) × (k ≤ t) × Q × (is_own chain chains k ≡ false)
  lies Q k zero a b t le e none any =
      let here = any_of_one (Lies Q k) (first a [] t) any in
      (here.0, here.1, here.2, none k here.0 (omega (arith, here.1, e)))
  lies Q k (suc n) a b t le e none any =
      cond_both (is_own chain chains (b + 1)) ((b + 1) ∷ own_from (b + 1) n) (own_from (b + 1) n)
      (λ cs. Any (Lies Q k) (first a cs t ∷ rest cs t) → (a < k) × (k ≤ t) × Q × (is_own chain chains k ≡ false))
      (λ own has.
      elim (any_split (Lies Q k) (first a ((b + 1) ∷ own_from (b + 1) n) t) (rest ((b + 1) ∷ own_from (b + 1) n) t) has) [
        | inl here ↦ (here.0, omega (arith, here.1, e), here.2, none k here.0 (omega (arith, here.1)))
        | inr more ↦
            let found = lies Q k n (b + 1) (b + 1) t (omega arith) (omega (arith, e)) (λ j low high. absurd (omega (arith, low, high))) more in
            (omega (arith, found.0, le), found.1, found.2, found.3)
      ])
      (λ other has.
      lies Q k n a (b + 1) t (omega (arith, le)) (omega (arith, e)) (λ j low high.
      elim (cases_lt b j) [
        | inl past ↦ let last : b + 1 ≡ j = omega (arith, past, high) in subst (λ m. is_own chain chains m ≡ false) last other
        | inr before ↦ none j low before
      ]) has)
      any

-- ---- the own commits on top

-- a tree after a commit, which counts if it is of the chain
abbrev pub own_step : Option ℕ → Store → List Row → Sent → List Row
own_step chain s tree x = if is_in chain x then apply_ops tree s x.ops else tree

module _ (chain : Option ℕ) (ds : List Sent) where
  abbrev chains_of : List (Option ℕ)
  chains_of = map (λ (x : Sent). x.base.chain) ds

  abbrev ops_of : List (List Op)
  ops_of = map (λ (x : Sent). x.ops) ds

  -- whether a commit is of the chain
  pub own_is : (b : ℕ) (x : Sent) → slice_get ds b ≡ Some x → is_own chain chains_of (b + 1) ≡ is_in chain x
  own_is b x at =
      let back : b + 1 - 1 ≡ b = omega arith in
      ap (λ k. is_of_chain chain (unwrap_or (slice_get chains_of k) None)) back
      ∙ ap (λ (o : Option (Option ℕ)). is_of_chain chain (unwrap_or o None)) (slice_get-map (λ (y : Sent). y.base.chain) ds b)
      ∙ ap (λ (o : Option Sent). is_of_chain chain (unwrap_or (option_map (λ (y : Sent). y.base.chain) o) None)) at

  -- the operations of a commit
  ops_are : (b : ℕ) (x : Sent) → slice_get ds b ≡ Some x → unwrap_or (slice_get ops_of (b + 1 - 1)) [] ≡ x.ops
  ops_are b x at =
      let back : b + 1 - 1 ≡ b = omega arith in
      ap (λ k. unwrap_or (slice_get ops_of k) []) back
      ∙ ap (λ (o : Option (List Op)). unwrap_or o []) (slice_get-map (λ (y : Sent). y.ops) ds b)
      ∙ ap (λ (o : Option Sent). unwrap_or (option_map (λ (y : Sent). y.ops) o) []) at

  pub on_top : (s : Store) (n b t : ℕ) (tree : List Row) → b + n ≡ length ds → with_own ops_of s tree (rest (own_from chain chains_of b n) t) ≡ fold (own_step chain s) tree (drop b ds)
  on_top s zero b t tree e = ap (fold (own_step chain s) tree) (sym (drop_all b ds (omega (arith, e))))
  on_top s (suc n) b t tree e =
      elim ((slice_get_cases ds b).1) [
        | inl w ↦
            let x : Sent = w.0 in
            let at : slice_get ds b ≡ Some x = w.2 in
            let own = own_is b x at in
            cond_both (is_own chain chains_of (b + 1)) ((b + 1) ∷ own_from chain chains_of (b + 1) n) (own_from chain chains_of (b + 1) n)
            (λ cs. with_own ops_of s tree (rest cs t) ≡ fold (own_step chain s) tree (x ∷ drop (b + 1) ds))
            (λ yes.
            ap (λ (ops : List Op). with_own ops_of s (apply_ops tree s ops) (rest (own_from chain chains_of (b + 1) n) t)) (ops_are b x at)
            ∙ on_top s n (b + 1) t (apply_ops tree s x.ops) (omega (arith, e))
            ∙ ap (λ o. fold (own_step chain s) (cond o (apply_ops tree s x.ops) tree) (drop (b + 1) ds)) (sym yes ∙ own))
            (λ other.
            on_top s n (b + 1) t tree (omega (arith, e))
            ∙ ap (λ o. fold (own_step chain s) (cond o (apply_ops tree s x.ops) tree) (drop (b + 1) ds)) (sym other ∙ own))
            ∙ ap (fold (own_step chain s) tree) (sym (drop_more ds b x at))
        | inr w ↦ absurd (omega (arith, w.0, e))
      ]
