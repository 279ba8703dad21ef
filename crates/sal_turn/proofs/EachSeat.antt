-- Properties of each seat, after the view of one changed, or after a new one was added.
use Rattle.std.proofs.Common.{◌≡◌, ◌≢◌, ℕ, zero, suc, List, [], ◌∷◌, ◌++◌, length, set, refl, sym, ◌∙◌, subst, inl, inr, ⊎_elim}
use mathlib.Core.Option.{some, some-injective, some-ne-none}
use lib.ListN.{get_elem?}
use Rattle.atomic_table.proofs.Lists.{at_set}
use Rattle.sal_turn.specs.declared.view.View.{View}
use Rattle.sal_turn.specs.Lists.{In}
use Rattle.sal_turn.specs.Stages.{IsLive}
use Rattle.sal_turn.specs.Views.{AnswersFor}
use Rattle.sal_turn.proofs.Lists.{at_end}

module _ {W : Type 0} where
  -- a property of each seat is one of each after one changed
  pub seats_stay : (K : ℕ → W → Type 0) (vs : List W) (me : ℕ) (w : W) → K me w → ((j : ℕ) (d : W) → j ≢ me → get_elem? vs j ≡ some d → K j d) → (j : ℕ) (d : W) → get_elem? (set vs me w) j ≡ some d → K j d
  seats_stay K vs me w mine others j d e = ⊎_elim (λ (t : (j ≡ me) × (w ≡ d)). subst (λ (x : ℕ × W). K x.0 x.1) (λ i. (sym t.0 i, t.1 i)) mine)
      (λ (t : (j ≢ me) × (get_elem? vs j ≡ some d)). others j d t.0 t.1) (at_set vs me j w d e)

  -- the one seat of a new lock
  pub one_seat : (only : W) (K : ℕ → W → Type 0) → K 0 only → (j : ℕ) (d : W) → get_elem? (only ∷ []) j ≡ some d → K j d
  one_seat only K h zero d g = subst (K 0) (some-injective only d g) h
  one_seat only K h (suc j) d g = absurd (some-ne-none d (sym g))

  -- a property of each seat and of a new one is one of each
  pub ends_stay : (K : ℕ → W → Type 0) (vs : List W) (w : W) → K (length vs) w → ((j : ℕ) (d : W) → get_elem? vs j ≡ some d → K j d) → (j : ℕ) (d : W) → get_elem? (vs ++ w ∷ []) j ≡ some d → K j d
  ends_stay K vs w mine others j d e = ⊎_elim (λ (t : get_elem? vs j ≡ some d). others j d t) (λ (t : (j ≡ length vs) × (w ≡ d)). subst (λ (x : ℕ × W). K x.0 x.1) (λ i. (sym t.0 i, t.1 i)) mine) (at_end vs w d j e)

module _ {E G : Type 0} where
  abbrev pub Apart : List (View E G) → Type 0
  Apart vs = (id : ℕ) (v : View E G) → get_elem? vs id ≡ some v → IsLive v.stage → (j : ℕ) (w : View E G) → get_elem? vs j ≡ some w → IsLive w.stage → AnswersFor w v.number → id ≡ j

  abbrev Once : List (View E G) → Type 0
  Once vs = (id : ℕ) (v : View E G) → get_elem? vs id ≡ some v → IsLive v.stage → (es : List E) → ¬ In (v.number, es) v.joined

  -- a seat that keeps its number and those that it took in
  pub apart_stays : (vs : List (View E G)) (me : ℕ) (v w : View E G) → get_elem? vs me ≡ some v → IsLive v.stage → w.number ≡ v.number → w.joined ≡ v.joined → Apart vs → Apart (set vs me w)
  apart_stays vs me v w at live num jo apart =
      seats_stay (λ id x. IsLive x.stage → (j : ℕ) (y : View E G) → get_elem? (set vs me w) j ≡ some y → IsLive y.stage → AnswersFor y x.number → id ≡ j) vs me w
      (λ _ j y g ly a. seats_stay (λ j y. IsLive y.stage → AnswersFor y w.number → me ≡ j) vs me w (λ _ _. refl) (λ j y _ g ly a. apart me v at live j y g ly (subst (AnswersFor y) num a)) j y g ly a)
      (λ id x ne gx lx j y g ly a. seats_stay (λ j y. IsLive y.stage → AnswersFor y x.number → id ≡ j) vs me w
      (λ _ a. apart id x gx lx me v at live (⊎_elim (λ (e : w.number ≡ x.number). inl (sym num ∙ e)) (λ (e : (es : List E) × In (x.number, es) w.joined). inr (e.0, subst (In (x.number, e.0)) jo e.1)) a))
      (λ j y _ g ly a. apart id x gx lx j y g ly a) j y g ly a)

  pub once_stays : (vs : List (View E G)) (me : ℕ) (v w : View E G) → get_elem? vs me ≡ some v → IsLive v.stage → w.number ≡ v.number → w.joined ≡ v.joined → Once vs → Once (set vs me w)
  once_stays vs me v w at live num jo once =
      seats_stay (λ id x. IsLive x.stage → (es : List E) → ¬ In (x.number, es) x.joined) vs me w
      (λ _ es i. once me v at live es (subst (λ (k : ℕ). In (k, es) v.joined) num (subst (In (w.number, es)) jo i)))
      (λ id x ne gx lx. once id x gx lx)
