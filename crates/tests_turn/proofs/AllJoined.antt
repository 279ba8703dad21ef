-- A seat that took all others in answers for each number given.
use Rattle.std.proofs.Common.{◌≡◌, ℕ, List, true, false, cond, ◌||◌, [], ◌∷◌, ◌∙◌, subst, inl, ⊎_elim}
use Rattle.sal_turn.specs.declared.view.View.{View}
use Rattle.sal_turn.specs.Lists.{In}
use Rattle.sal_turn.specs.Views.{both, AnswersFor}
use Rattle.sal_turn.proofs.Joined.{answers_first, answers_second}

module _ {E G : Type 0} where
  abbrev AnswersForEach : View E G → List ℕ → Type 0
  AnswersForEach v [] = Unit {0}
  AnswersForEach v (n ∷ ks) = AnswersFor v n × AnswersForEach v ks

  answers_each : (v : View E G) (ks : List ℕ) → AnswersForEach v ks → (k : ℕ) → In k ks → AnswersFor v k
  answers_each v [] all k i = absurd i
  answers_each v (n ∷ ks) all k i = ⊎_elim (λ (e : n ≡ k). subst (AnswersFor v) e all.0) (answers_each v ks all.1 k) i

  -- the opening seat took one in
  pub two_joined : (a b : ℕ) (v w : View E G) → v.number ≡ a → w.number ≡ b → v.splits ≡ true → v.given ≡ a ∷ b ∷ [] → (k : ℕ) → In k (both v w).given → AnswersFor (both v w) k
  two_joined a b v w first second may given k i =
      let all : (both v w).given ≡ a ∷ b ∷ [] = (λ j. cond (may j) v.given w.given) ∙ given in
      answers_each (both v w) (a ∷ b ∷ []) (answers_first v w a (inl first), (answers_second v w b (inl second), tt)) k (subst (In k) all i)

  -- the second took the third in, and that one the opening seat
  pub three_joined : (a b c : ℕ) (u v w : View E G) → u.number ≡ a → v.number ≡ b → w.number ≡ c → u.splits ≡ false → v.splits ≡ false → w.given ≡ c ∷ a ∷ b ∷ []
      → (k : ℕ) → In k (both (both u v) w).given → AnswersFor (both (both u v) w) k
  three_joined a b c u v w first second third one two given k i =
      let all : (both (both u v) w).given ≡ c ∷ a ∷ b ∷ [] = (λ j. cond (one j || two j) (cond (one j) u.given v.given) w.given) ∙ given in
      answers_each (both (both u v) w) (c ∷ a ∷ b ∷ [])
      (answers_second (both u v) w c (inl third), (answers_first (both u v) w a (answers_first u v a (inl first)), (answers_first (both u v) w b (answers_second u v b (inl second)), tt)))
      k (subst (In k) all i)
