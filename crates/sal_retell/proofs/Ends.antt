-- Walks over two lists, of which the second one is at its end.
use Rattle.std.proofs.Common.{◌≡◌, ℕ, List, [], ◌∷◌, None, refl}
use Rattle.sal_retell.specs.declared.front.Footing.{Footing}
use Rattle.sal_retell.specs.Light.{commits_of, failing_on}

pub commits_none : (domain : ℕ) (fs : List Footing) → commits_of domain fs [] ≡ 0
commits_none domain [] = refl
commits_none domain (f ∷ fs) = refl

pub failing_none : (n chain : ℕ) (fs : List Footing) → failing_on n chain fs [] ≡ None
failing_none n chain [] = refl
failing_none n chain (f ∷ fs) = refl
