-- Numbers by path, as a map with lists of steps as keys.
use Rattle.std.specs.Prelude.{ℕ, List, [], ◌∷◌}
use Rattle.std.specs.declared.vec.Vec.{Vec}
use Rattle.std.specs.declared.alloc.Global.{Global}
use Rattle.sal_types.specs.declared.value.Step.{Step}

abbrev pub by_path : List (Vec Step Global × ℕ) → List (List Step × ℕ)
by_path [] = []
by_path (e ∷ es) = (e.0.items, e.1) ∷ by_path es
