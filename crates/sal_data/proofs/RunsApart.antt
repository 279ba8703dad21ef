-- Rows that rise, parted into runs with the same next step.
use Rattle.std.proofs.Common.{◌≡◌, ◌⊎◌, inl, inr, ℕ, true, false, List, [], ◌∷◌, length, Option, Some, None, if◌then◌else◌, refl, sym, ap, subst, ◌∙◌}
use Rattle.std.specs.List.{slice_get}
use Rattle.std.specs.Ordering.{is_eq, ordering_then}
use Rattle.std.specs.declared.cmp.Ordering.TheVariants.{Less, Equal, Greater}
use Rattle.std.specs.Cmp.{Equal-is, tied_itself}
use Rattle.std.proofs.lemmas.Bool.{true≢false}
use Rattle.sal_types.specs.declared.value.Step.{Step}
use Rattle.sal_types.specs.declared.row.Row.{Row}
use Rattle.sal_types.specs.Order.{step_cmp, step_cmp-IsAntisymmetric, step_cmp-IsTotalOrder, path_cmp, path_cmp-IsTotalOrder}
use Rattle.sal_types.specs.Prefix.{is_prefix}
use Rattle.sal_types.proofs.Prefixes.{IsPrefix-from_test}
use Rattle.sal_data.specs.Read.{same_step}
use Rattle.sal_data.specs.Written.{next_step, same_next, step_of, with_row, runs_of}
use Rattle.sal_data.proofs.Listed.{In}
use Rattle.sal_data.proofs.Fronts.{slice_get-behind, path_cmp-behind, Rises}

-- ---- steps

pub step_is : (s t : Step) → same_step s t ≡ true → s ≡ t
step_is s t e = step_cmp-IsAntisymmetric s t ((Equal-is _).0 e)

pub same_step-itself : (s : Step) → same_step s s ≡ true
same_step-itself s = ap is_eq (tied_itself step_cmp-IsTotalOrder s)

next_is : (a b : Option Step) → same_next a b ≡ true → a ≡ b
next_is None None e = refl
next_is None (Some t) e = cc
next_is (Some s) None e = cc
next_is (Some s) (Some t) e = ap Some (step_is s t e)

same_next-itself : (a : Option Step) → same_next a a ≡ true
same_next-itself None = refl
same_next-itself (Some s) = same_step-itself s

-- a step, or none, as a path: so they are in order
abbrev key : Option Step → List Step
key None = []
key (Some s) = s ∷ []

-- before b in order
abbrev pub Before : Option Step → Option Step → Type 0
Before a b = path_cmp (key a) (key b) ≡ Less

pub before_apart : (a b : Option Step) → Before a b → a ≡ b → ⊥
before_apart a b e same =
    let tied : path_cmp (key b) (key b) ≡ Equal = tied_itself path_cmp-IsTotalOrder (key b) in
    let lt : path_cmp (key b) (key b) ≡ Less = ap (λ c. path_cmp (key c) (key b)) (sym same) ∙ e in
    cc

first_then : (s t : Step) (u v : List Step) → ordering_then (step_cmp s t) (path_cmp u v) ≡ Less → Before (Some s) (Some t) ⊎ (◌≡◌ {A = Option Step} (Some s) (Some t))
first_then s t u v e =
    elim (step_cmp s t) as (λ o. step_cmp s t ≡ o → ordering_then o (path_cmp u v) ≡ Less → (ordering_then o Equal ≡ Less) ⊎ (◌≡◌ {A = Option Step} (Some s) (Some t))) [
      | Less ↦ λ is e. inl refl
      | Equal ↦ λ is e. inr (ap Some (step_cmp-IsAntisymmetric s t is))
      | Greater ↦ λ is e. cc
    ] refl e

first_order : (u v : List Step) → path_cmp u v ≡ Less → Before (slice_get u 0) (slice_get v 0) ⊎ (slice_get u 0 ≡ slice_get v 0)
first_order [] [] e = cc
first_order [] (t ∷ v) e = inl refl
first_order (s ∷ u) [] e = cc
first_order (s ∷ u) (t ∷ v) e = first_then s t u v e

module _ (path : List Step) where
  abbrev k : ℕ
  k = length path

  abbrev pub IsWithin : Row → Type 0
  IsWithin row = is_prefix path row.path ≡ true

  next_order : (x y : Row) → IsWithin x → IsWithin y → path_cmp x.path y.path ≡ Less → Before (next_step (length path) x) (next_step (length path) y) ⊎ (next_step (length path) x ≡ next_step (length path) y)
  next_order x y hx hy e =
      let (u, at_x) = IsPrefix-from_test path x.path hx in
      let (v, at_y) = IsPrefix-from_test path y.path hy in
      let lt : path_cmp u v ≡ Less = sym (path_cmp-behind path u v) ∙ sym (λ i. path_cmp (at_x i) (at_y i)) ∙ e in
      let nx : next_step (length path) x ≡ slice_get u 0 = ap (λ p. slice_get p (length path)) at_x ∙ slice_get-behind path u in
      let ny : next_step (length path) y ≡ slice_get v 0 = ap (λ p. slice_get p (length path)) at_y ∙ slice_get-behind path v in
      elim (first_order u v lt) [
        | inl before ↦ inl ((λ i. path_cmp (key (nx i)) (key (ny i))) ∙ before)
        | inr same ↦ inr (nx ∙ same ∙ sym ny)
      ]

  -- ---- runs

  abbrev pub RunsRise : List (List Row) → Type 0
  RunsRise [] = Unit {0}
  RunsRise (run ∷ runs) = ((r : List Row) → In r runs → Before (step_of (length path) run) (step_of (length path) r)) × RunsRise runs

  -- the rows, parted into runs
  pub record AreRuns (rows : List Row) (runs : List (List Row)) : Type 0 where
    pub rise : RunsRise runs
    pub filled : (run : List Row) → In run runs → (row : Row) × In row run
    pub same : (run : List Row) → In run runs → (row : Row) → In row run → next_step (length path) row ≡ step_of (length path) run
    pub from : (run : List Row) → In run runs → (row : Row) → In row run → In row rows
    pub all : (row : Row) → In row rows → (run : List Row) × In run runs × In row run
    pub rising : (run : List Row) → In run runs → Rises run

  -- runs with one step are one
  pub unique : (runs : List (List Row)) (a b : List Row) → RunsRise runs → In a runs → In b runs → step_of (length path) a ≡ step_of (length path) b → a ≡ b
  unique [] a b h ha hb e = absurd ha
  unique (run ∷ runs) a b (first, rest) (inl ea) (inl eb) e = ea ∙ sym eb
  unique (run ∷ runs) a b (first, rest) (inl ea) (inr hb) e = absurd (before_apart (step_of (length path) run) (step_of (length path) b) (first b hb) (ap (step_of (length path)) (sym ea) ∙ e))
  unique (run ∷ runs) a b (first, rest) (inr ha) (inl eb) e = absurd (before_apart (step_of (length path) run) (step_of (length path) a) (first a ha) (ap (step_of (length path)) (sym eb) ∙ sym e))
  unique (run ∷ runs) a b (first, rest) (inr ha) (inr hb) e = unique runs a b rest ha hb e

  module _ (x : Row) (rows : List Row) (within : IsWithin x) (all_within : (r : Row) → In r rows → IsWithin r) (first : (r : Row) → In r rows → path_cmp x.path r.path ≡ Less) where
    alone : AreRuns rows [] → AreRuns (x ∷ rows) ((x ∷ []) ∷ [])
    alone h = record {
      rise = (λ r there. absurd there, tt);
      filled = λ run there. by_filled run there;
      same = λ run there row here. by_same run row there here;
      from = λ run there row here. by_from run row there here;
      all = λ row there. by_all row there;
      rising = λ run there. by_rising run there;
    }
      where
        by_filled : (run : List Row) → In run ((x ∷ []) ∷ []) → (row : Row) × In row run
        by_filled run (inl e) = (x, subst (λ r. In x r) (sym e) (inl refl))
        by_filled run (inr none) = absurd none

        by_same : (run : List Row) (row : Row) → In run ((x ∷ []) ∷ []) → In row run → next_step (length path) row ≡ step_of (length path) run
        by_same run row (inl e) here = elim (subst (λ r. In row r) e here) [ inl is ↦ ap (next_step (length path)) is ∙ ap (step_of (length path)) (sym e) | inr none ↦ absurd none ]
        by_same run row (inr none) here = absurd none

        by_from : (run : List Row) (row : Row) → In run ((x ∷ []) ∷ []) → In row run → In row (x ∷ rows)
        by_from run row (inl e) here = elim (subst (λ r. In row r) e here) [ inl is ↦ inl is | inr none ↦ absurd none ]
        by_from run row (inr none) here = absurd none

        by_all : (row : Row) → In row (x ∷ rows) → (run : List Row) × In run ((x ∷ []) ∷ []) × In row run
        by_all row (inl e) = (x ∷ [], inl refl, inl e)
        by_all row (inr there) = let (run, none, here) = h.all row there in absurd none

        by_rising : (run : List Row) → In run ((x ∷ []) ∷ []) → Rises run
        by_rising run (inl e) = subst (λ (r : List Row). Rises r) (sym e) (λ r none. absurd none, tt)
        by_rising run (inr none) = absurd none

    module _ (run : List Row) (runs : List (List Row)) (h : AreRuns rows (run ∷ runs)) where
      joined : next_step (length path) x ≡ step_of (length path) run → AreRuns (x ∷ rows) ((x ∷ run) ∷ runs)
      joined e = record {
        rise = (λ r there. subst (λ o. Before o (step_of (length path) r)) (sym e) (h.rise.0 r there), h.rise.1);
        filled = λ r there. by_filled r there;
        same = λ r there row here. by_same r row there here;
        from = λ r there row here. by_from r row there here;
        all = λ row there. by_all row there;
        rising = λ r there. by_rising r there;
      }
        where
          by_filled : (r : List Row) → In r ((x ∷ run) ∷ runs) → (row : Row) × In row r
          by_filled r (inl is) = (x, subst (λ s. In x s) (sym is) (inl refl))
          by_filled r (inr there) = h.filled r (inr there)

          by_same : (r : List Row) (row : Row) → In r ((x ∷ run) ∷ runs) → In row r → next_step (length path) row ≡ step_of (length path) r
          by_same r row (inl is) here = elim (subst (λ s. In row s) is here) [
            | inl me ↦ ap (next_step (length path)) me ∙ ap (step_of (length path)) (sym is)
            | inr old ↦ h.same run (inl refl) row old ∙ sym e ∙ ap (step_of (length path)) (sym is)
          ]
          by_same r row (inr there) here = h.same r (inr there) row here

          by_from : (r : List Row) (row : Row) → In r ((x ∷ run) ∷ runs) → In row r → In row (x ∷ rows)
          by_from r row (inl is) here = elim (subst (λ s. In row s) is here) [ inl me ↦ inl me | inr old ↦ inr (h.from run (inl refl) row old) ]
          by_from r row (inr there) here = inr (h.from r (inr there) row here)

          by_all : (row : Row) → In row (x ∷ rows) → (r : List Row) × In r ((x ∷ run) ∷ runs) × In row r
          by_all row (inl me) = (x ∷ run, inl refl, inl me)
          by_all row (inr there) = by (h.all row there)
            where
              by : ((r : List Row) × In r (run ∷ runs) × In row r) → (r : List Row) × In r ((x ∷ run) ∷ runs) × In row r
              by (r, inl is, here) = (x ∷ run, inl refl, inr (subst (λ s. In row s) is here))
              by (r, inr later, here) = (r, inr later, here)

          by_rising : (r : List Row) → In r ((x ∷ run) ∷ runs) → Rises r
          by_rising r (inl is) = subst (λ (s : List Row). Rises s) (sym is) (λ y there. first y (h.from run (inl refl) y there), h.rising run (inl refl))
          by_rising r (inr there) = h.rising r (inr there)

      before_first : same_next (next_step (length path) x) (step_of (length path) run) ≡ false → Before (next_step (length path) x) (step_of (length path) run)
      before_first apart =
          let (y, here) = h.filled run (inl refl) in
          let there = h.from run (inl refl) y here in
          let mine = h.same run (inl refl) y here in
          elim (next_order x y within (all_within y there) (first y there)) [
            | inl before ↦ subst (λ o. Before (next_step (length path) x) o) mine before
            | inr same ↦ absurd (true≢false (sym (same_next-itself (step_of (length path) run)) ∙ ap (λ o. same_next o (step_of (length path) run)) (sym (same ∙ mine)) ∙ apart))
          ]

      ahead : same_next (next_step (length path) x) (step_of (length path) run) ≡ false → AreRuns (x ∷ rows) ((x ∷ []) ∷ run ∷ runs)
      ahead apart = record {
        rise = (λ r there. by_rise r there, h.rise);
        filled = λ r there. by_filled r there;
        same = λ r there row here. by_same r row there here;
        from = λ r there row here. by_from r row there here;
        all = λ row there. by_all row there;
        rising = λ r there. by_rising r there;
      }
        where
          by_rise : (r : List Row) → In r (run ∷ runs) → Before (next_step (length path) x) (step_of (length path) r)
          by_rise r (inl is) = subst (λ s. Before (next_step (length path) x) (step_of (length path) s)) (sym is) (before_first apart)
          by_rise r (inr there) = path_cmp-IsTotalOrder.trans (key (next_step (length path) x)) (key (step_of (length path) run)) (key (step_of (length path) r)) (before_first apart) (h.rise.0 r there)

          by_filled : (r : List Row) → In r ((x ∷ []) ∷ run ∷ runs) → (row : Row) × In row r
          by_filled r (inl is) = (x, subst (λ s. In x s) (sym is) (inl refl))
          by_filled r (inr there) = h.filled r there

          by_same : (r : List Row) (row : Row) → In r ((x ∷ []) ∷ run ∷ runs) → In row r → next_step (length path) row ≡ step_of (length path) r
          by_same r row (inl is) here = elim (subst (λ s. In row s) is here) [ inl me ↦ ap (next_step (length path)) me ∙ ap (step_of (length path)) (sym is) | inr none ↦ absurd none ]
          by_same r row (inr there) here = h.same r there row here

          by_from : (r : List Row) (row : Row) → In r ((x ∷ []) ∷ run ∷ runs) → In row r → In row (x ∷ rows)
          by_from r row (inl is) here = elim (subst (λ s. In row s) is here) [ inl me ↦ inl me | inr none ↦ absurd none ]
          by_from r row (inr there) here = inr (h.from r there row here)

          by_all : (row : Row) → In row (x ∷ rows) → (r : List Row) × In r ((x ∷ []) ∷ run ∷ runs) × In row r
          by_all row (inl me) = (x ∷ [], inl refl, inl me)
          by_all row (inr there) = let (r, later, here) = h.all row there in (r, inr later, here)

          by_rising : (r : List Row) → In r ((x ∷ []) ∷ run ∷ runs) → Rises r
          by_rising r (inl is) = subst (λ (s : List Row). Rises s) (sym is) (λ y none. absurd none, tt)
          by_rising r (inr there) = h.rising r there

    with_one : (runs : List (List Row)) → AreRuns rows runs → AreRuns (x ∷ rows) (with_row (length path) x runs)
    with_one [] h = alone h
    with_one (run ∷ runs) h =
        elim (same_next (next_step (length path) x) (step_of (length path) run)) as (λ b. same_next (next_step (length path) x) (step_of (length path) run) ≡ b → AreRuns (x ∷ rows) (if b then (x ∷ run) ∷ runs else (x ∷ []) ∷ run ∷ runs)) [
          | true ↦ λ e. joined run runs h (next_is (next_step (length path) x) (step_of (length path) run) e)
          | false ↦ λ e. ahead run runs h e
        ] refl

  pub are_runs : (rows : List Row) → Rises rows → ((r : Row) → In r rows → IsWithin r) → AreRuns rows (runs_of (length path) rows)
  unfolding runs_of
  are_runs [] rise within = record {
    rise = tt;
    filled = λ run there. absurd there;
    same = λ run there. absurd there;
    from = λ run there. absurd there;
    all = λ row there. absurd there;
    rising = λ run there. absurd there;
  }
  are_runs (x ∷ rows) (first, rest) within =
      with_one x rows (within x (inl refl)) (λ r there. within r (inr there)) first (runs_of (length path) rows) (are_runs rows rest (λ r there. within r (inr there)))
