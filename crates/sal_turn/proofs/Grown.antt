-- The own entries of a seat after a turn.
use Rattle.std.proofs.Common.{◌≡◌, ℕ, List, [], ◌∷◌, ◌++◌, length, drop, inl, inr, refl, ap, sym, ◌∙◌, append-nil, arith}
use Rattle.std.proofs.lemmas.List.{drop_all, drop_at}
use Rattle.sal_turn.specs.Entries.{Leaves}

pub own_then : {E : Type 0} (client_of : E → ℕ) (k : ℕ) (found own now later : List E) → Leaves client_of k found own now later → later ≡ own ++ drop (length found) now
own_then {E} client_of k found own now later (inl (same, kept)) =
    kept ∙ sym (append-nil own) ∙ ap (λ (es : List E). own ++ es) (sym (drop_all (length found) found (omega arith)) ∙ ap (λ (es : List E). drop (length found) es) (sym same))
own_then {E} client_of k found own now later (inr (e, mine, more, grown)) =
    grown ∙ ap (λ (es : List E). own ++ es) (sym (drop_at found (e ∷ []) (length found) refl) ∙ ap (λ (es : List E). drop (length found) es) (sym more))
