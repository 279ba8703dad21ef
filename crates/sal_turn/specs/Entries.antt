-- The entries of one client, and what one turn may add to all entries.
use Rattle.std.specs.Prelude.{◌≡◌, ◌⊎◌, ℕ, ◌==◌, List, [], ◌∷◌, ◌++◌}
use Rattle.std.specs.List.{filter}

module _ {E : Type 0} (client : E → ℕ) where
  -- the entries of one client, in their order
  abbrev pub entries_by : ℕ → List E → List E
  entries_by k es = filter (λ e. client e == k) es

  -- the entries are those found, or these with one more of the client k at the end
  abbrev pub AddsAtMostOne : ℕ → List E → List E → Type 0
  AddsAtMostOne k found now = (now ≡ found) ⊎ ((e : E) × (client e ≡ k) × (now ≡ found ++ e ∷ []))

  -- the same, and the own entries change from `own` to `then` accordingly
  abbrev pub Leaves : ℕ → List E → List E → List E → List E → Type 0
  Leaves k found own now then = ((now ≡ found) × (then ≡ own)) ⊎ ((e : E) × (client e ≡ k) × (now ≡ found ++ e ∷ []) × (then ≡ own ++ e ∷ []))
