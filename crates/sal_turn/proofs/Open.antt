-- A new lock meets the rule.
use Rattle.std.proofs.Common.{◌≡◌, ℕ, ◌^◌, ◌<◌, List, [], ◌∷◌, refl, sym, subst, inl, ⊎_elim, Option, Some}
use mathlib.Core.Option.{some, some-ne-none}
use lib.ListN.{get_elem?}
use Rattle.atomic_table.specs.Table.{State, opening}
use Rattle.sal_turn.specs.declared.view.View.{View}
use Rattle.sal_turn.specs.Lists.{In}
use Rattle.sal_turn.specs.Rule.{SeatRule, StageRule, LockRule}
use Rattle.sal_turn.specs.Stages.{IsLive}
use Rattle.sal_turn.specs.Views.{opener, AnswersFor}
use Rattle.sal_turn.proofs.Lists.{prefix_self}
use Rattle.sal_turn.proofs.EachSeat.{one_seat}

module _ {V E G : Type 0} (entries : V → List E) (client : E → ℕ) (ground : V → G) where
  abbrev Rule : State (Option V) (View E G) → Type 0
  Rule = LockRule entries client ground

  -- open: no seat has a ticket, and the value has no entries
  pub begins : (k : ℕ) (x : V) → entries x ≡ [] → k < 2 ^ 32 → Rule (opening (0 ∷ 0 ∷ []) (Some x ∷ []) (opener k (ground x)))
  begins k x none_yet small =
      let only : View E G = opener k (ground x) in
      let alone : (K : ℕ → View E G → Type 0) → K 0 only → (j : ℕ) (d : View E G) → get_elem? (only ∷ []) j ≡ some d → K j d = λ K h j d g. one_seat only K h j d g in record {
        present = [];
        world = ground x;
        served = 0;
        queue = [];
        all = k ∷ [];
        boss = 0;
        home = some (Some x);
        words_are = refl;
        homes_are = refl;
        lies = (none_yet, refl);
        queued = λ i j q. absurd (some-ne-none j (sym q));
        knows = alone (λ j d. StageRule entries client ground 0 [] [] (some (Some x)) j d.stage) tt;
        fits = alone (λ j d. IsLive d.stage → SeatRule entries client ground [] (ground x) (k ∷ []) 0 j d)
            (λ _. record { saw = prefix_self []; grounded = refl; mine = refl; counts = inl refl; theirs = λ n es i. absurd i; may_split = λ _. (refl, refl) });
        apart = alone (λ id v. IsLive v.stage → (j : ℕ) (w : View E G) → get_elem? (only ∷ []) j ≡ some w → IsLive w.stage → AnswersFor w v.number → id ≡ j) (λ _. alone (λ j w. IsLive w.stage → AnswersFor w k → 0 ≡ j) (λ _ _. refl));
        once = alone (λ id v. IsLive v.stage → (es : List E) → ¬ In (v.number, es) v.joined) (λ _ es i. i);
        foreign = λ n out. refl;
        small = λ n i. ⊎_elim (λ (e : k ≡ n). subst (λ n. n < 2 ^ 32) e small) (λ (h : ⊥). absurd h) i;
      }
