-- Results, one after another.
use Rattle.std.proofs.Common.{◌≡◌, Result, Ok, Err, refl}
use Rattle.sal_types.specs.Reading.{◌>>=◌}

-- one good result is one value
pub same_ok : {A F : Type 0} {a b : A} → (let r : Result A F = Ok a in r) ≡ Ok b → a ≡ b
same_ok e = cc

-- a good result has come by way of another
pub bind_ok : {A B F : Type 0} (r : Result A F) (f : A → Result B F) (y : B) → (r >>= f) ≡ Ok y → (x : A) × (r ≡ Ok x) × (f x ≡ Ok y)
bind_ok (Ok x) f y e = (x, refl, e)
bind_ok (Err e) f y is = cc
