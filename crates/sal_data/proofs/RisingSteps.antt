-- Steps that rise, and one more after them.
use Rattle.std.proofs.Common.{◌≡◌, suc, ◌-◌, Bool, true, false, List, [], ◌∷◌, ◌++◌, length, refl, sym, ap, ◌∙◌, arith}
use Rattle.std.specs.Prelude.{◌||◌, not}
use Rattle.std.specs.List.{list_any, slice_get}
use Rattle.std.specs.Option.{option_map_or}
use Rattle.std.specs.Ordering.{is_lt, is_eq, ordering_reverse}
use Rattle.std.specs.declared.cmp.Ordering.TheVariants.{Less}
use Rattle.std.proofs.lemmas.Bool.{and_parts, and_from}
use Rattle.sal_types.specs.declared.value.Step.{Step}
use Rattle.sal_types.specs.Order.{step_cmp, step_cmp-IsTotalOrder}
use Rattle.sal_data.specs.Read.{same_step}
use Rattle.sal_data.specs.Rising.{is_past, is_behind, is_rising}
use Rattle.sal_data.proofs.Fronts.{less}

-- ---- the last step

last_of_rest : (x y : Step) (steps : List Step) → slice_get (x ∷ y ∷ steps) (length (x ∷ y ∷ steps) - 1) ≡ slice_get (y ∷ steps) (length (y ∷ steps) - 1)
last_of_rest x y steps = let e : length (x ∷ y ∷ steps) - 1 ≡ suc (length (y ∷ steps) - 1) = omega arith in ap (slice_get (x ∷ y ∷ steps)) e

past-behind : (steps : List Step) (step : Step) → is_past steps step ≡ is_behind steps step
past-behind [] step = refl
past-behind (x ∷ []) step = refl
past-behind (x ∷ y ∷ steps) step = ap (λ o. option_map_or (λ last. is_lt (step_cmp last step)) o true) (last_of_rest x y steps) ∙ past-behind (y ∷ steps) step

-- ---- a step after all

first_before : (x : Step) (steps : List Step) (step : Step) → is_rising (x ∷ steps) ≡ true → is_behind (x ∷ steps) step ≡ true → step_cmp x step ≡ Less
first_before x [] step rises behind = less (step_cmp x step) behind
first_before x (y ∷ steps) step rises behind =
    let (first, rest) = and_parts (is_lt (step_cmp x y)) (is_rising (y ∷ steps)) rises in
    step_cmp-IsTotalOrder.trans x y step (less (step_cmp x y) first) (first_before y steps step rest behind)

other : (x step : Step) → step_cmp x step ≡ Less → same_step step x ≡ false
other x step e = ap is_eq (step_cmp-IsTotalOrder.antisymm step x ∙ ap ordering_reverse e)

none_of : (steps : List Step) (step : Step) → is_rising steps ≡ true → is_behind steps step ≡ true → list_any (same_step step) steps ≡ false
none_of [] step rises behind = refl
none_of (x ∷ []) step rises behind = ap (λ b. b || false) (other x step (first_before x [] step rises behind))
none_of (x ∷ y ∷ steps) step rises behind =
    ap (λ b. b || list_any (same_step step) (y ∷ steps)) (other x step (first_before x (y ∷ steps) step rises behind))
    ∙ none_of (y ∷ steps) step (and_parts (is_lt (step_cmp x y)) (is_rising (y ∷ steps)) rises).1 behind

more : (steps : List Step) (step : Step) → is_rising steps ≡ true → is_behind steps step ≡ true → is_rising (steps ++ step ∷ []) ≡ true
more [] step rises behind = refl
more (x ∷ []) step rises behind = and_from (is_lt (step_cmp x step)) true behind refl
more (x ∷ y ∷ steps) step rises behind =
    let (first, rest) = and_parts (is_lt (step_cmp x y)) (is_rising (y ∷ steps)) rises in
    and_from (is_lt (step_cmp x y)) (is_rising (y ∷ (steps ++ step ∷ []))) first (more (y ∷ steps) step rest behind)

pub rising-more : (steps : List Step) (step : Step) → is_rising steps ≡ true → is_past steps step ≡ true → is_rising (steps ++ step ∷ []) ≡ true
rising-more steps step rises past = more steps step rises (sym (past-behind steps step) ∙ past)

-- ---- elements among lists

any-append : (p : Step → Bool) (xs ys : List Step) → list_any p (xs ++ ys) ≡ (list_any p xs || list_any p ys)
any-append p [] ys = refl
any-append p (x ∷ xs) ys = ap (λ b. p x || b) (any-append p xs ys) ∙ grouped (p x) (list_any p xs) (list_any p ys)
  where
    grouped : (a b c : Bool) → (a || (b || c)) ≡ ((a || b) || c)
    grouped true b c = refl
    grouped false b c = refl

or_none : (b : Bool) → (b || false) ≡ b
or_none true = refl
or_none false = refl

no_steps : (steps : List Step) → length steps ≡ 0 → steps ≡ []
no_steps [] e = refl
no_steps (x ∷ steps) e = absurd (omega arith)

-- a step past those that rise is new, if there are no others
pub is_new-past : (steps others : List Step) (step : Step) → is_rising steps ≡ true → is_past steps step ≡ true → length others ≡ 0 → true ≡ not (list_any (same_step step) (steps ++ others))
is_new-past steps others step rises past none =
    let p = same_step step in
    sym (ap not (any-append p steps others ∙ ap (λ l. list_any p steps || list_any p l) (no_steps others none) ∙ or_none (list_any p steps)
    ∙ none_of steps step rises (sym (past-behind steps step) ∙ past)))
