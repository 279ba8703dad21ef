-- What holds of what was given, where it was.
use Rattle.std.proofs.Common.{Result, Ok, Err}
use Rattle.std.specs.Prelude.{⊤}
use Rattle.sal_types.specs.Reading.{◌>>=◌}

abbrev pub Given : {A F : Type 0} → (A → Type 0) → Result A F → Type 0
Given P (Ok x) = P x
Given P (Err e) = ⊤

pub given_then : {A B F : Type 0} (P : A → Type 0) (Q : B → Type 0) (r : Result A F) (f : A → Result B F) → Given P r → ((x : A) → P x → Given Q (f x)) → Given Q (r >>= f)
given_then P Q (Ok x) f is more = more x is
given_then P Q (Err e) f is more = tt
