-- A test on a path and on each of its prefixes.
use Rattle.std.specs.Prelude.{ℕ, Bool, false, ◌||◌, List, [], ◌∷◌, Option, Some, None}
use lib.Dec.{ltb}
use Rattle.sal_types.specs.declared.value.Step.{Step}

abbrev pub any_prefix : (List Step → Bool) → List Step → Bool
any_prefix f [] = f []
any_prefix f (x ∷ p) = f [] || any_prefix (λ q. f (x ∷ q)) p

-- whether there is an index, and it is less than another one
abbrev pub is_early : ℕ → Option ℕ → Bool
is_early before None = false
is_early before (Some place) = ltb place before
