-- The steps of a script, as one reading of a list.
use Rattle.std.proofs.Common.{◌≡◌, ℕ, ◌+◌, ◌<◌, List, [], ◌∷◌, ◌++◌, length, get_or, drop, map, Some, Result, Ok, refl, ap, ◌∙◌}
use Rattle.std.specs.Prelude.{decimal}
use Rattle.sal_types.specs.Reading.{◌>>=◌}
use Rattle.serde_json.specs.View.{view}
use Rattle.serde_json.specs.declared.value.Value.{Value}
use Rattle.sal_script.specs.Script.{or_bad}
use Rattle.sal_script.proofs.Each.{before, each_from, each_next}
use Rattle.sal_owner_script.specs.declared.step.OwnerStep.{OwnerStep}
use Rattle.sal_owner_script.specs.Steps.{step_of, steps_from}

abbrev pub step_at : ℕ → Value → Result OwnerStep (List ℕ)
step_at i v = or_bad (decimal i) (step_of (view v))

pub steps_from-each : (i : ℕ) (vs : List Value) → steps_from i (map view vs) ≡ each_from step_at i vs
steps_from-each i [] = refl
steps_from-each i (v ∷ vs) = ap (λ rest. step_at i v >>= (λ step. rest >>= (λ steps. Ok (step ∷ steps)))) (steps_from-each (i + 1) vs)

-- one step more is read
pub step_next : (i : ℕ) (steps grown : List OwnerStep) (step : OwnerStep) (vs : List Value) (v : Value) (total : Result (List OwnerStep) (List ℕ)) → grown ≡ steps ++ step ∷ [] → i < length vs → v ≡ get_or vs i v → step_of (view v) ≡ Some step
    → before steps (each_from step_at i (drop i vs)) ≡ total → before grown (each_from step_at (i + 1) (drop (i + 1) vs)) ≡ total
step_next i steps grown step vs v total more within is read so_far =
    ap (λ done. before done (each_from step_at (i + 1) (drop (i + 1) vs))) more ∙ each_next step_at steps i vs total v step within is (ap (or_bad (decimal i)) read) so_far
