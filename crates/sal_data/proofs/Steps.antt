-- The next steps of runs.
use Rattle.std.proofs.Common.{◌≡◌, inl, inr, ℕ, List, [], ◌∷◌, length, Option, Some, None, refl, sym, ap, subst, ◌∙◌}
use Rattle.sal_types.specs.declared.value.Step.{Step}
use Rattle.sal_types.specs.declared.row.Row.{Row}
use Rattle.sal_data.specs.Written.{step_of}
use Rattle.sal_data.proofs.Listed.{In}
use Rattle.sal_data.proofs.RunsApart.{RunsRise, before_apart}
use Rattle.sal_data.proofs.Composed.{Apart}

abbrev pub onto_steps : Option Step → List Step → List Step
onto_steps None steps = steps
onto_steps (Some s) steps = s ∷ steps

abbrev pub steps_of : ℕ → List (List Row) → List Step
steps_of k [] = []
steps_of k (run ∷ runs) = onto_steps (step_of k run) (steps_of k runs)

-- the step is that of one of the runs
abbrev pub IsStep : ℕ → Step → List (List Row) → Type 0
IsStep k s runs = (run : List Row) × In run runs × (step_of k run ≡ Some s)

later : (k : ℕ) (s : Step) (run : List Row) (runs : List (List Row)) → IsStep k s runs → IsStep k s (run ∷ runs)
later k s run runs (r, there, at) = (r, inr there, at)

pub steps-from : (k : ℕ) (s : Step) (runs : List (List Row)) → In s (steps_of k runs) → IsStep k s runs
steps-from k s [] h = absurd h
steps-from k s (run ∷ runs) h = by (λ h. steps-from k s runs h) (step_of k run) refl h
  where
    by : (In s (steps_of k runs) → IsStep k s runs) → (o : Option Step) → step_of k run ≡ o → In s (onto_steps o (steps_of k runs)) → IsStep k s (run ∷ runs)
    by rest None at h = later k s run runs (rest h)
    by rest (Some t) at (inl e) = (run, inl refl, at ∙ ap (λ u. Some u) (sym e))
    by rest (Some t) at (inr h) = later k s run runs (rest h)

onto-kept : (s : Step) (o : Option Step) (steps : List Step) → In s steps → In s (onto_steps o steps)
onto-kept s None steps h = h
onto-kept s (Some t) steps h = inr h

pub steps-In : (k : ℕ) (s : Step) (run : List Row) (runs : List (List Row)) → In run runs → step_of k run ≡ Some s → In s (steps_of k runs)
steps-In k s run [] there at = absurd there
steps-In k s run (r ∷ runs) (inl e) at =
    let here : step_of k r ≡ Some s = ap (step_of k) (sym e) ∙ at in
    subst (λ o. In s (onto_steps o (steps_of k runs))) (sym here) (inl refl)
steps-In k s run (r ∷ runs) (inr there) at = onto-kept s (step_of k r) (steps_of k runs) (steps-In k s run runs there at)

module _ (rows : List Row) (path : List Step) where
  pub steps-Apart : (runs : List (List Row)) → RunsRise path runs → Apart rows (steps_of (length path) runs)
  steps-Apart [] h = tt
  steps-Apart (run ∷ runs) (first, rest) = by (steps-Apart runs rest) (step_of (length path) run) refl
    where
      by : Apart rows (steps_of (length path) runs) → (o : Option Step) → step_of (length path) run ≡ o → Apart rows (onto_steps o (steps_of (length path) runs))
      by others None at = others
      by others (Some s) at =
          (λ there. let (r, among, is) = steps-from (length path) s runs there in before_apart (step_of (length path) run) (step_of (length path) r) (first r among) (at ∙ sym is), others)
