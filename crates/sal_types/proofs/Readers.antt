-- The exits of a reader that pass a fault on.
use Rattle.std.proofs.Common.{◌≡◌, Result, Ok, Err, ◌∙◌}
use Rattle.std.specs.Result.{IsErrAnd}
use Rattle.sal_types.specs.Reading.{◌>>=◌, GivesUnless}

-- an error that is passed on
pub gives_err : {X Y F : Type 0} (memory : F) (view : X → Y) (r : Result X F) (e : F) (read : Result Y F) → IsErrAnd r (λ d. d ≡ e) → ((e ≡ memory → ⊥) → read ≡ Err e) → GivesUnless memory view r read
gives_err memory view (Ok x) e read is h = absurd is
gives_err memory view (Err d) e read is h = λ known. h (λ was. known (is ∙ was)) ∙ cc

-- a step that fails
pub bind_err : {A B F : Type 0} (r : Result A F) (f : A → Result B F) (e : F) → r ≡ Err e → (r >>= f) ≡ Err e
bind_err (Ok x) f e h = cc
bind_err (Err d) f e h = cc
