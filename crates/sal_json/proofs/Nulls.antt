-- JSON arrays of two values or more.
use Rattle.std.proofs.Common.{◌≡◌, ◌≤◌, false, List, [], ◌∷◌, length, refl, arith}
use Rattle.serde_json.specs.View.{items_view}
use Rattle.serde_json.specs.declared.value.Value.{Value}
use Rattle.sal_json.specs.Read.{is_one_null}

pub many_values : (list : List Value) → 2 ≤ length list → is_one_null (items_view list) ≡ false
many_values [] h = refl
many_values (x ∷ []) h = absurd (omega arith)
many_values (x ∷ y ∷ list) h = refl
