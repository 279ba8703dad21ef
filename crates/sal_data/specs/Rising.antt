-- Steps of which each is greater than the one before it.
use Rattle.std.specs.Prelude.{◌-◌, Bool, true, List, [], ◌∷◌, ◌&&◌, length}
use Rattle.std.specs.List.{slice_get}
use Rattle.std.specs.Option.{option_map_or}
use Rattle.std.specs.Ordering.{is_lt}
use Rattle.sal_types.specs.declared.value.Step.{Step}
use Rattle.sal_types.specs.Order.{step_cmp}

-- the step is greater than the last of these, if there is one
abbrev pub is_past : List Step → Step → Bool
is_past steps step = option_map_or (λ last. is_lt (step_cmp last step)) (slice_get steps (length steps - 1)) true

-- the same without a look-up
abbrev pub is_behind : List Step → Step → Bool
is_behind [] step = true
is_behind (x ∷ []) step = is_lt (step_cmp x step)
is_behind (x ∷ y ∷ steps) step = is_behind (y ∷ steps) step

abbrev pub is_rising : List Step → Bool
is_rising [] = true
is_rising (x ∷ []) = true
is_rising (x ∷ y ∷ steps) = is_lt (step_cmp x y) && is_rising (y ∷ steps)
