-- Each entry of a log is answered by those before it, by their places.
use Rattle.std.proofs.Common.{◌≡◌, ℕ, zero, suc, ◌<◌, List, [], ◌∷◌, ◌++◌, length, take, Option, None, Some, refl, ap, sym, ◌∙◌, subst, arith, inl, inr, ◌⊎◌}
use Rattle.std.specs.Prelude.{slice_get}
use Rattle.std.specs.List.{fold}
use Rattle.std.proofs.lemmas.List.{take-append-le}
use Rattle.std.proofs.lemmas.Option.{none-some, same_Some, slice_get_within}
use Rattle.std.proofs.Math.Seq.{take-append_seam}
use Rattle.sal_history.specs.declared.call.Entry.{Entry}
use Rattle.sal_history.specs.World.{Domain}
use Rattle.sal_history.specs.History.{Answered, answer, answered_as, history, reply_to}
use Rattle.sal_history.proofs.Receipts.{last_or_before}

-- one more of the first ones
pub take_next : {X : Type 0} (n : ℕ) (xs : List X) (x : X) → slice_get xs n ≡ Some x → take (suc n) xs ≡ take n xs ++ x ∷ []
take_next n [] x at = absurd (none-some x at)
take_next zero (y ∷ xs) x at = ap (λ z. z ∷ []) (same_Some y x at)
take_next (suc n) (y ∷ xs) x at = ap (λ zs. y ∷ zs) (take_next n xs x at)

-- the element at a place, or the place is past the end
pub there_or_not : {X : Type 0} (xs : List X) (n : ℕ) (o : Option X) → slice_get xs n ≡ o → ((x : X) × (slice_get xs n ≡ Some x)) ⊎ (take (suc n) xs ≡ take n xs)
there_or_not xs n (Some x) at = inl (x, at)
there_or_not [] zero None at = inr refl
there_or_not [] (suc n) None at = inr refl
there_or_not (y ∷ xs) zero None at = absurd (none-some y (sym at))
there_or_not {X} (y ∷ xs) (suc n) None at = elim (there_or_not xs n None at) [
  | inl w ↦ absurd (none-some w.0 (sym at ∙ w.1))
  | inr same ↦ inr (ap (λ (zs : List X). y ∷ zs) same)
]

-- each entry, with its answer after those before it
abbrev pub AreAnswered : List Domain → List Answered → Type 0
AreAnswered world h = (i : ℕ) (a : Answered) → slice_get h i ≡ Some a → a.reply ≡ reply_to world (take i h) a.entry.client a.entry.call

module _ (world : List Domain) where
  answered-more : (h : List Answered) (e : Entry) → AreAnswered world h → AreAnswered world (answer world h e)
  answered-more h e are i a at =
      let x : Answered = answered_as world h e (reply_to world h e.client e.call) in
      elim (last_or_before h x a i at) [
        | inl old ↦
            let inside : i < length h = slice_get_within h i a old in
            let front : take i (h ++ x ∷ []) ≡ take i h = take-append-le i h (x ∷ []) (omega (arith, inside)) in
            are i a old ∙ ap (λ (before : List Answered). reply_to world before a.entry.client a.entry.call) (sym front)
        | inr w ↦
            let front : take i (h ++ x ∷ []) ≡ h = ap (λ k. take k (h ++ x ∷ [])) w.0 ∙ take-append_seam h (x ∷ []) in
            subst (λ (b : Answered). b.reply ≡ reply_to world (take i (h ++ x ∷ [])) b.entry.client b.entry.call) w.1
            (ap (λ (before : List Answered). reply_to world before e.client e.call) (sym front))
      ]

  answered-fold : (h : List Answered) (log : List Entry) → AreAnswered world h → AreAnswered world (fold (answer world) h log)
  answered-fold h [] are = are
  answered-fold h (e ∷ log) are = answered-fold (answer world h e) log (answered-more h e are)

  pub are_answered : (log : List Entry) → AreAnswered world (history world log)
  are_answered log = answered-fold [] log (λ i a at. absurd (none-some a at))
