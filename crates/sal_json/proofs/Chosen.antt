-- Results that were chosen by tests.
use Rattle.std.proofs.Common.{◌≡◌, Bool, true, false, if◌then◌else◌, Option, Some, None, Result, Ok, Err, refl}
use Rattle.std.specs.Option.{option_map_or}

pub same_ok : {X F : Type 0} (x y : X) → ◌≡◌ {A = Result X F} (Ok x) (Ok y) → x ≡ y
same_ok x y e = cc

pub chosen : {X F : Type 0} (b : Bool) (r : Result X F) (fault : F) (y : X) → (if b then r else Err fault) ≡ Ok y → (b ≡ true) × (r ≡ Ok y)
chosen true r fault y e = (refl, e)
chosen false r fault y e = cc

pub otherwise : {X F : Type 0} (b : Bool) (fault : F) (r : Result X F) (y : X) → (if b then Err fault else r) ≡ Ok y → (b ≡ false) × (r ≡ Ok y)
otherwise true fault r y e = cc
otherwise false fault r y e = (refl, e)

pub from_some : {X Y F : Type 0} (f : X → Result Y F) (o : Option X) (fault : F) (y : Y) → option_map_or f o (Err fault) ≡ Ok y → (x : X) × (o ≡ Some x) × (f x ≡ Ok y)
from_some f None fault y e = cc
from_some f (Some x) fault y e = (x, refl, e)
