-- The values that nodes inherit, from one node to the next.
use Rattle.std.proofs.Common.{◌≡◌, ℕ, zero, suc, ◌+◌, ◌<◌, nat_lt, List, [], ◌∷◌, ◌++◌, length, get_or, Option, Some, None, refl, sym, ap, ◌∙◌, inl, inr, arith}
use Rattle.std.proofs.lemmas.Bool.{cases_Bool}
use Rattle.std.proofs.lemmas.Bool.Decides.{nat_tests}
use Rattle.std.proofs.lemmas.Option.{slice_get-get_or}
use Rattle.std.specs.List.{slice_get}
use Rattle.std.specs.Option.{option_map_or}
use Rattle.sal_grouping.specs.declared.forest.Branch.{Branch}
use Rattle.sal_grouping.proofs.Places.{table-last}
use Rattle.sal_module_table.specs.Inherited.{above, inherited, from_above}

module _ {A : Type 0} (f : Branch → ℕ → A → A) (top : A) (forest : List Branch) where
  step : (n k : ℕ) → inherited f top (suc n) forest k ≡ option_map_or (λ b. f b k (above (inherited f top n forest) top k b.parent)) (slice_get forest k) top
  unfolding inherited
  step n k = refl

  -- two that agree below a number give the same above it
  same-above : (at other : ℕ → A) (k : ℕ) (parent : Option ℕ) → ((p : ℕ) → p < k → at p ≡ other p) → above at top k parent ≡ above other top k parent
  same-above at other k None agree = refl
  same-above at other k (Some p) agree = elim (cases_Bool (nat_lt p k)) [
    | inl e ↦ let less : p < k = grind (arith, nat_tests) in rw e (agree p less)
    | inr e ↦ rw e refl
  ]

  same-step : (r : Option Branch) (at other : ℕ → A) (k : ℕ) → ((p : ℕ) → p < k → at p ≡ other p)
      → option_map_or (λ b. f b k (above at top k b.parent)) r top ≡ option_map_or (λ b. f b k (above other top k b.parent)) r top
  same-step None at other k agree = refl
  same-step (Some b) at other k agree = ap (f b k) (same-above at other k b.parent agree)

  -- more steps than the number of the node are enough
  pub enough : (n m k : ℕ) → k < n → k < m → inherited f top n forest k ≡ inherited f top m forest k
  enough zero m k h g = absurd (omega arith)
  enough (suc n) zero k h g = absurd (omega arith)
  enough (suc n) (suc m) k h g =
      step n k ∙ same-step (slice_get forest k) (inherited f top n forest) (inherited f top m forest) k (λ p less. enough n m p (omega arith) (omega arith)) ∙ sym (step m k)

  -- what a node has, by those before
  pub from_above-step : (k : ℕ) (b : Branch) → k < length forest → slice_get forest k ≡ Some b → f b k (above (from_above f top forest) top k b.parent) ≡ from_above f top forest k
  from_above-step k b h at =
      let known : inherited f top (length forest) forest k ≡ inherited f top (suc (length forest)) forest k = enough (length forest) (suc (length forest)) k h (omega arith) in
      sym (known ∙ step (length forest) k ∙ ap (λ r. option_map_or (λ b. f b k (above (from_above f top forest) top k b.parent)) r top) at)

  -- one node more
  inherited-more : (done : List A) (k : ℕ) (b : Branch) (next : A) → k < length forest → slice_get forest k ≡ Some b → length done ≡ k
      → ((m : ℕ) (d : A) → m < k → get_or done m d ≡ from_above f top forest m)
      → next ≡ f b k (above (λ p. get_or done p top) top k b.parent)
      → (m : ℕ) (d : A) → m < k + 1 → get_or (done ++ next ∷ []) m d ≡ from_above f top forest m
  inherited-more done k b next h at count so_far is =
      let here : next ≡ from_above f top forest k =
      is ∙ ap (f b k) (same-above (λ p. get_or done p top) (from_above f top forest) k b.parent (λ p less. so_far p top less)) ∙ from_above-step k b h at in
      table-last (from_above f top forest) done k next count here so_far

  -- one node more, behind those that were done
  pub inherited-pushed : (done after : List A) (k : ℕ) (d : Branch) (next : A) → k < length forest → length done ≡ k
      → ((m : ℕ) (d : A) → m < k → get_or done m d ≡ from_above f top forest m)
      → next ≡ f (get_or forest k d) k (above (λ p. get_or done p top) top k (get_or forest k d).parent)
      → after ≡ done ++ next ∷ []
      → (m : ℕ) (d : A) → m < k + 1 → get_or after m d ≡ from_above f top forest m
  inherited-pushed done after k d next h count so_far is pushed m e less =
      ap (λ xs. get_or xs m e) pushed ∙ inherited-more done k (get_or forest k d) next h (slice_get-get_or forest k d h) count so_far is m e less

  none-step : (k : ℕ) → inherited f top 0 forest k ≡ top
  unfolding inherited
  none-step k = refl

  -- and of no other number is anything known
  pub past : (n k : ℕ) → slice_get forest k ≡ None → inherited f top n forest k ≡ top
  past zero k none = none-step k
  past (suc n) k none = step n k ∙ rw none refl
