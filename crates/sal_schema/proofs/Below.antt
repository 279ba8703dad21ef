-- Properties of each number below another one.
use Rattle.std.proofs.Common.{◌≡◌, ℕ, zero, suc, ◌+◌, ◌<◌, Bool, true, false, ◌&&◌, List, [], ◌∷◌, length, refl, ap, inl, inr, arith}
use Rattle.std.proofs.lemmas.Bool.{cases_lt, and_right}
use Rattle.std.specs.Prelude.{◌≢◌}
use Rattle.sal_types.specs.declared.value.Value.{Value}
use Rattle.sal_schema.specs.declared.table.SchemaTable.{SchemaTable}
use Rattle.sal_schema.specs.Paths.{are_of_nodes}
use Rattle.sal_schema.specs.Values.{all_below, is_of_node}

module _ (test : ℕ → Bool) where
  pub all_below_none : all_below test 0 ≡ true
  unfolding all_below
  all_below_none = refl

  pub all_below_more : (n : ℕ) → all_below test n ≡ true → test n ≡ true → all_below test (n + 1) ≡ true
  unfolding all_below
  all_below_more n so_far here = let e : n + 1 ≡ suc n = omega arith in rw (e, here) so_far

  pub all_below_fails : (k n : ℕ) → k < n → test k ≡ false → all_below test n ≡ false
  unfolding all_below
  all_below_fails k zero low fails = absurd (omega arith)
  all_below_fails k (suc n) low fails =
      elim (cases_lt k n) [
        | inl below ↦ and_right (test n) (all_below test n) (all_below_fails k n below fails)
        | inr past ↦ let e : k ≡ n = omega arith in ap (λ b. b && all_below test n) (rw e at fails)
      ]

-- lists that are not as long do not fit
pub are_of_nodes-short : (table : SchemaTable) (leafs : List ℕ) (values : List Value) → length leafs ≢ length values → are_of_nodes table leafs values ≡ false
are_of_nodes-short table [] [] differ = absurd (differ refl)
are_of_nodes-short table [] (value ∷ values) differ = refl
are_of_nodes-short table (leaf ∷ leafs) [] differ = refl
are_of_nodes-short table (leaf ∷ leafs) (value ∷ values) differ =
    and_right (is_of_node table leaf value) (are_of_nodes table leafs values) (are_of_nodes-short table leafs values (λ e. differ (ap suc e)))
