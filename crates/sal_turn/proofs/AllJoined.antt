-- An opening seat that took in the two seats split off it answers for each number given.
use Rattle.std.proofs.Common.{◌≡◌, ℕ, true, cond, ◌||◌, [], ◌∷◌, ◌∙◌, subst, inl, ⊎_elim}
use Rattle.sal_turn.specs.declared.view.View.{View}
use Rattle.sal_turn.specs.Lists.{In}
use Rattle.sal_turn.specs.Views.{both, AnswersFor}
use Rattle.sal_turn.proofs.Joined.{answers_first, answers_second}

module _ {E G : Type 0} where
  pub all_joined : (a b c : ℕ) (v u w : View E G) → v.number ≡ c → u.number ≡ a → w.number ≡ b → v.splits ≡ true → v.given ≡ c ∷ a ∷ b ∷ []
      → (k : ℕ) → In k (both (both v u) w).given → AnswersFor (both (both v u) w) k
  all_joined a b c v u w opening first second may given k i =
      let all : (both (both v u) w).given ≡ c ∷ a ∷ b ∷ [] = (λ j. cond (may j || u.splits) (cond (may j) v.given u.given) w.given) ∙ given in
      ⊎_elim (λ (e : c ≡ k). answers_first (both v u) w k (answers_first v u k (inl (opening ∙ e))))
      (λ (h : In k (a ∷ b ∷ [])). ⊎_elim (λ (e : a ≡ k). answers_first (both v u) w k (answers_second v u k (inl (first ∙ e))))
      (λ (h : In k (b ∷ [])). ⊎_elim (λ (e : b ≡ k). answers_second (both v u) w k (inl (second ∙ e))) (λ (h : ⊥). absurd h) h)
      h)
      (subst (In k) all i)
