-- Whether a number with a fraction or an exponent is among items or members: one more.
use Rattle.std.proofs.Common.{◌≡◌, ℕ, ◌+◌, ◌<◌, ◌||◌, List, ◌∷◌, length, get_or, drop, ap, sym, ◌∙◌}
use Rattle.std.proofs.lemmas.List.{drop_more}
use Rattle.serde_json.specs.View.{view, items_view}
use Rattle.serde_json.specs.Written.{has_float, items_have_float}
use Rattle.serde_json.specs.declared.value.Value.{Value}

pub item_more : (vs : List Value) (i : ℕ) (x : Value) → i < length vs → x ≡ get_or vs i x → items_have_float (items_view (drop i vs)) ≡ (has_float (view x) || items_have_float (items_view (drop (i + 1) vs)))
item_more vs i x h e = ap (λ (ys : List Value). items_have_float (items_view ys)) (drop_more vs i x h ∙ ap (λ (y : Value). y ∷ drop (i + 1) vs) (sym e))
