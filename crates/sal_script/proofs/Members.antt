-- Where no other client has an entry, each entry is of one of few.
use Rattle.std.proofs.Common.{◌≡◌, ℕ, zero, suc, ◌<◌, ◌≤◌, Bool, true, false, List, [], ◌∷◌, length, Some, ap, sym, arith, true≢false, inl, inr}
use Rattle.std.specs.Prelude.{if◌then◌else◌, nat_eq, slice_get}
use Rattle.std.specs.List.{filter}
use Rattle.std.proofs.lemmas.Bool.{cases_lt, eq-eqb}
use Rattle.std.proofs.lemmas.Option.{same_Some}
use Rattle.sal_history.specs.declared.call.Entry.{Entry}

-- one of the entries that pass is left
abbrev kept : Bool → Entry → List Entry → List Entry
kept own e rest = if own then e ∷ rest else rest

-- an entry of the log is one of its client's
is_own : (log : List Entry) (i : ℕ) (e : Entry) → slice_get log i ≡ Some e → filter (λ (x : Entry). nat_eq x.client e.client) log ≡ [] → ⊥
is_own [] i e at none = cc
is_own (x ∷ log) zero e at none = by (nat_eq x.client e.client) (eq-eqb x.client e.client (ap (λ (y : Entry). y.client) (same_Some x e at))) none
  where
    by : (own : Bool) → own ≡ true → kept own x (filter (λ (y : Entry). nat_eq y.client e.client) log) ≡ [] → ⊥
    by true is none' = let long = ap length none' in omega (arith, long)
    by false is none' = true≢false (sym is)
is_own (x ∷ log) (suc i) e at none = by (nat_eq x.client e.client) (λ none'. is_own log i e at none') none
  where
    by : (own : Bool) → (filter (λ (y : Entry). nat_eq y.client e.client) log ≡ [] → ⊥) → kept own x (filter (λ (y : Entry). nat_eq y.client e.client) log) ≡ [] → ⊥
    by true rest none' = let long = ap length none' in omega (arith, long)
    by false rest none' = rest none'

-- the clients of a log's entries are below n where no other has any
pub known_below : (n : ℕ) (log : List Entry) → ((k : ℕ) → n ≤ k → filter (λ (x : Entry). nat_eq x.client k) log ≡ []) → (i : ℕ) (e : Entry) → slice_get log i ≡ Some e → e.client < n
known_below n log none i e at =
    elim (cases_lt e.client n) [
      | inl below ↦ below
      | inr beyond ↦ absurd (is_own log i e at (none e.client beyond))
    ]
