-- Values by number, made in an order in which the numbers that a value uses are before it.
use Rattle.std.proofs.Common.{◌≡◌, ℕ, zero, suc, ◌+◌, ◌<◌, ◌==◌, List, [], length, get_or, Bool, true, refl, sym, ap, ◌∙◌, inl, inr, arith}
use Rattle.std.specs.Prelude.{if◌then◌else◌}
use Rattle.std.specs.List.{list_all}
use Rattle.std.proofs.lemmas.Bool.{cases_Bool, cases_lt}
use Rattle.sal_module_table.specs.Orders.{rank_of, is_lower, IsOrdered}
use Rattle.sal_module_table.proofs.Derivations.{low, stands, named, lower-inside, lower-rank, unequal}

module _ (edges : List (List ℕ)) (ranks order : List ℕ) (good : IsOrdered edges ranks order) {A : Type 0} (none : A) (make : (ℕ → A) → ℕ → A) (value : ℕ → ℕ → A)
    (value-suc : (n i : ℕ) → value (suc n) i ≡ make (value n) i)
    (alike : (test : ℕ → Bool) (f g : ℕ → A) (i : ℕ) → list_all test (get_or edges i []) ≡ true → ((b : ℕ) → test b ≡ true → f b ≡ g b) → make f i ≡ make g i) where
  -- as many steps as its rank and one more are enough
  enough : (n m i : ℕ) → i < length edges → rank_of ranks i < n → rank_of ranks i < m → value n i ≡ value m i
  enough zero m i h a b = absurd (omega arith)
  enough (suc n) zero i h a b = absurd (omega arith)
  enough (suc n) (suc m) i h a b =
      value-suc n i
      ∙ alike (is_lower ranks (length edges) i) (value n) (value m) i (named edges ranks order good i h)
      (λ k e. let under = lower-rank edges ranks order good i k e in enough n m k (lower-inside edges ranks order good i k e) (omega arith) (omega arith))
      ∙ sym (value-suc m i)

  from-named : (i : ℕ) → i < length edges → make (value (length edges)) i ≡ value (length edges) i
  from-named i h =
      let under = low edges ranks order good i h in
      sym (enough (length edges) (suc (length edges)) i h under (omega arith) ∙ value-suc (length edges) i)

  -- one rank more
  pub values-more : (rows next : List A) (r i : ℕ) → i ≡ get_or order r (length edges)
      → ((j : ℕ) → j < length edges → rank_of ranks j < r → get_or rows j none ≡ value (length edges) j)
      → ((k : ℕ) → k < length edges → get_or next k none ≡ (if i == k then make (λ b. get_or rows b none) k else get_or rows k none))
      → (j : ℕ) → j < length edges → rank_of ranks j < r + 1 → get_or next j none ≡ value (length edges) j
  values-more rows next r i is known put j h at = elim (cases_Bool (i == j)) [
    | inl e ↦
        let here : get_or next j none ≡ make (λ b. get_or rows b none) j = put j h ∙ rw e refl in
        here
        ∙ alike (is_lower ranks (length edges) j) (λ b. get_or rows b none) (value (length edges)) j (named edges ranks order good j h)
        (λ k low_k. let under = lower-rank edges ranks order good j k low_k in known k (lower-inside edges ranks order good j k low_k) (omega arith))
        ∙ from-named j h
    | inr e ↦
        let here : get_or next j none ≡ get_or rows j none = put j h ∙ rw e refl in
        elim (cases_lt (rank_of ranks j) r) [
          | inl before ↦ here ∙ known j h before
          | inr after ↦
              let same : rank_of ranks j ≡ r = omega arith in
              absurd (unequal i j e (is ∙ ap (λ n. get_or order n (length edges)) (sym same) ∙ stands edges ranks order good j h))
        ]
  ]
