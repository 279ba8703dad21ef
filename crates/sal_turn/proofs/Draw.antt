-- Drawing a ticket keeps the rule.
use Rattle.std.proofs.Common.{◌≡◌, ℕ, ◌+◌, ◌%◌, ◌^◌, List, [], ◌∷◌, ◌++◌, length, get_or, set, refl, sym, ap, ◌∙◌, subst, ⊎_elim, arith, length-append, Option}
use mathlib.Core.Option.{some, none, some-injective, some-ne-none}
use mathlib.Core.Option as maybe
use lib.ListN.{get_elem?}
use Rattle.atomic_table.specs.Table.{State, Me, step, keeps, Allows}
use Rattle.atomic_table.proofs.Lists.{at_longer, at_last}
use Rattle.sal_turn.specs.declared.view.View.{View}
use Rattle.sal_turn.specs.declared.view.Stage.{Stage}
use Rattle.sal_turn.specs.declared.view.Stage.TheVariants.{Spent, Idle, Names, Waits, HasTurn, Compares}
use Rattle.sal_turn.specs.Rule.{SeatRule, StageRule, LockRule}
use Rattle.sal_turn.specs.Stages.{IsLive, ticket, has_turn}
use Rattle.sal_turn.specs.Tells.{DrawTells}
use Rattle.sal_turn.specs.Views.{at_stage}
use Rattle.sal_turn.proofs.Lists.{set_at, at_end, one_more}
use Rattle.sal_turn.proofs.EachSeat.{seats_stay, apart_stays, once_stays}
use Rattle.sal_turn.proofs.Stays.{restaged, lies_stays, queued_stays}

module _ {V E G : Type 0} (entries : V → List E) (client : E → ℕ) (ground : V → G) where
  abbrev Rule : State (Option V) (View E G) → Type 0
  Rule = LockRule entries client ground

  word_0 : (s : State (Option V) (View E G)) (r : Rule s) → get_or s.words 0 0 ≡ (r.served + length r.queue) % 2 ^ 64
  word_0 s r = ap (λ ws. get_or ws 0 0) r.words_are

  knows_longer : (served : ℕ) (queue : List ℕ) (present : List E) (home : maybe.Option (Option V)) (j me : ℕ) (st : Stage E) → StageRule entries client ground served queue present home j st → StageRule entries client ground served (queue ++ me ∷ []) present home j st
  knows_longer served queue present home j me Spent k = tt
  knows_longer served queue present home j me Idle k = tt
  knows_longer served queue present home j me (Names n) k = tt
  knows_longer served queue present home j me (Waits t) k = (k.0, k.1, at_longer queue (me ∷ []) k.0 j k.2)
  knows_longer served queue present home j me (HasTurn t found) k = (k.0, at_longer queue (me ∷ []) 0 j k.1, k.2, k.3)
  knows_longer served queue present home j me (Compares l) k = k

  -- draw: the seat gets the next ticket
  pub draws : (slots id : ℕ) (me : Me (Option V) (View E G)) → me.0.stage ≡ Idle → Allows Rule slots id me 0 (λ n. (n + 1) % 2 ^ 64) (DrawTells entries client ground (step slots 0 1 0 none) me)
  draws slots id me idle s r len here fits =
      let v = me.0 in
      let t : ℕ = r.served + length r.queue in
      let w = at_stage (Waits t) v in
      let live : IsLive v.stage = subst IsLive (sym idle) tt in
      let no_ticket : ticket v.stage ≡ none = ap ticket idle in (
        w,
        keeps,
        tt,
        record {
          present = r.present;
          world = r.world;
          served = r.served;
          queue = r.queue ++ id ∷ [];
          all = r.all;
          boss = r.boss;
          home = r.home;
          words_are = ap (λ ws. set ws 0 ((get_or ws 0 0 + 1) % 2 ^ 64)) r.words_are
              ∙ ap (λ n. n ∷ (r.served % 2 ^ 64) ∷ []) (one_more t ∙ ap (λ n. n % 2 ^ 64) (omega (arith, length-append r.queue (id ∷ []))));
          homes_are = r.homes_are;
          lies = lies_stays entries client ground r.present r.world r.queue (r.queue ++ id ∷ []) s.views id v w here (ap has_turn idle) (λ j q. at_longer r.queue (id ∷ []) 0 j q) r.home r.lies;
          queued = λ i j q. ⊎_elim
              (λ (old : get_elem? r.queue i ≡ some j). queued_stays entries client ground r.served r.queue s.views id v w here no_ticket r.queued i j old)
              (λ (new : (i ≡ length r.queue) × (id ≡ j)). (w, subst (λ j. get_elem? (set s.views id w) j ≡ some w) new.1 (set_at s.views id w v here), ap (λ i. some (r.served + i)) (sym new.0)))
              (at_end r.queue id j i q);
          knows = seats_stay (λ j d. StageRule entries client ground r.served (r.queue ++ id ∷ []) r.present r.home j d.stage) s.views id w (length r.queue, refl, at_last r.queue id (length r.queue) refl)
              (λ j d _ g. knows_longer r.served r.queue r.present r.home j id d.stage (r.knows j d g));
          fits = seats_stay (λ j d. IsLive d.stage → SeatRule entries client ground r.present r.world r.all r.boss j d) s.views id w (λ _. restaged entries client ground r.present r.world r.all r.boss id v (Waits t) (r.fits id v here live)) (λ j d _ g. r.fits j d g);
          apart = apart_stays s.views id v w here live refl refl r.apart;
          once = once_stays s.views id v w here live refl refl r.once;
          foreign = r.foreign;
          small = r.small;
        },
        (t, sym (word_0 s r), refl),
      )
