-- Ending a turn keeps the rule.
use Rattle.std.proofs.Common.{◌≡◌, ◌≢◌, ℕ, zero, suc, ◌+◌, ◌%◌, ◌^◌, List, [], ◌∷◌, length, get_or, set, refl, sym, ap, ◌∙◌, subst, inl, inr, arith, Option, Some}
use mathlib.Core.Option.{some, none, some-injective, some-ne-none}
use mathlib.Core.Option as maybe
use mathlib.Core.List.{IsPrefix}
use lib.ListN.{get_elem?}
use Rattle.atomic_table.specs.Table.{State, Me, step, gives, put_back, rest, Allows}
use Rattle.atomic_table.proofs.Lists.{set_else}
use Rattle.sal_turn.specs.declared.view.View.{View}
use Rattle.sal_turn.specs.declared.view.Stage.{Stage}
use Rattle.sal_turn.specs.declared.view.Stage.TheVariants.{Spent, Idle, Names, Waits, HasTurn, Compares}
use Rattle.sal_turn.specs.Entries.{AddsAtMostOne}
use Rattle.sal_turn.specs.Lists.{In}
use Rattle.sal_turn.specs.Rule.{SeatRule, StageRule, LockRule}
use Rattle.sal_turn.specs.Stages.{IsLive, ticket}
use Rattle.sal_turn.specs.Tells.{after_turn, PassTells}
use Rattle.sal_turn.proofs.Lists.{one_there, tail, tail_at, tail_length, prefix_self, prefix_trans, by_other, adds_behind, one_more}
use Rattle.sal_turn.proofs.EachSeat.{seats_stay, apart_stays, once_stays}

module _ {V E G : Type 0} (entries : V → List E) (client : E → ℕ) (ground : V → G) where
  abbrev Rule : State (Option V) (View E G) → Type 0
  Rule = LockRule entries client ground

  next_waits : (served t : ℕ) (queue : List ℕ) (me j i : ℕ) → t ≡ served + i → get_elem? queue i ≡ some j → get_elem? queue 0 ≡ some me → j ≢ me → (n : ℕ) × (t ≡ (served + 1) + n) × (get_elem? (tail queue) n ≡ some j)
  next_waits served t queue me j zero e q first other = absurd (other (one_there queue 0 j me q first))
  next_waits served t queue me j (suc n) e q first other = (n, omega arith, tail_at queue n ∙ q)

  -- the first seat of the queue has had its turn, and the entries may be more
  knows_next : (served : ℕ) (queue : List ℕ) (present now : List E) (home home' : maybe.Option (Option V)) (me j : ℕ) → get_elem? queue 0 ≡ some me → j ≢ me → IsPrefix present now → (st : Stage E)
      → StageRule entries client ground served queue present home j st → StageRule entries client ground (served + 1) (tail queue) now home' j st
  knows_next served queue present now home home' me j first other more Spent k = tt
  knows_next served queue present now home home' me j first other more Idle k = tt
  knows_next served queue present now home home' me j first other more (Names n) k = tt
  knows_next served queue present now home home' me j first other more (Waits t) k = next_waits served t queue me j k.0 k.1 k.2 first other
  knows_next served queue present now home home' me j first other more (HasTurn t found) k = absurd (other (one_there queue 0 j me k.1 first))
  knows_next served queue present now home home' me j first other more (Compares l) k = prefix_trans l present now k more

  -- a property of a seat holds after an entry of another number was added
  fits_next : (present now : List E) (world : G) (all : List ℕ) (boss j me : ℕ) (d : View E G) → AddsAtMostOne client me present now → d.number ≢ me → ((k : ℕ) (es : List E) → In (k, es) d.joined → k ≢ me)
      → SeatRule entries client ground present world all boss j d → SeatRule entries client ground now world all boss j d
  fits_next present now world all boss j me d adds other others f = record {
    saw = prefix_trans d.seen present now f.saw (adds_behind client me present now adds);
    grounded = f.grounded;
    mine = by_other client d.number me present now other adds ∙ f.mine;
    counts = f.counts;
    theirs = λ k es i. let o = f.theirs k es i in (by_other client k me present now (others k es i) adds ∙ o.0, o.1);
    may_split = f.may_split;
  }

  -- pass: the turn ends, and the value is at home with at most one entry more
  pub passes : (slots id : ℕ) (me : Me (Option V) (View E G)) (t : ℕ) (found : List E) (x : V) → me.0.stage ≡ HasTurn t found → me.1 ≡ (0, Some x) ∷ [] → AddsAtMostOne client me.0.number found (entries x) → me.0.ground ≡ Some (ground x)
      → Allows Rule slots id me 1 (λ n. (n + 1) % 2 ^ 64) (PassTells entries client ground (step slots 1 1 0 none) me)
  passes slots id me t found x turn has adds grounded s r len here fits =
      let v = me.0 in
      let w = after_turn entries client ground x v in
      let live : IsLive v.stage = subst IsLive (sym turn) tt in
      let k : (t ≡ r.served) × (get_elem? r.queue 0 ≡ some id) × (found ≡ r.present) × (r.home ≡ none) = subst (StageRule entries client ground r.served r.queue r.present r.home id) turn (r.knows id v here) in
      let f = r.fits id v here live in
      let grows : AddsAtMostOne client v.number r.present (entries x) = subst (λ es. AddsAtMostOne client v.number es (entries x)) k.2 adds in
      let more : IsPrefix r.present (entries x) = adds_behind client v.number r.present (entries x) grows in
      let long : length r.queue ≡ suc (length (tail r.queue)) = tail_length r.queue id k.1 in
      let home : Option V = Some x in (
        w,
        gives,
        tt,
        record {
          present = entries x;
          world = r.world;
          served = r.served + 1;
          queue = tail r.queue;
          all = r.all;
          boss = r.boss;
          home = some home;
          words_are = ap (λ ws. set ws 1 ((get_or ws 1 0 + 1) % 2 ^ 64)) r.words_are
              ∙ (ap (λ n. ((r.served + length r.queue) % 2 ^ 64) ∷ n ∷ []) (one_more r.served) ∙ ap (λ n. (n % 2 ^ 64) ∷ ((r.served + 1) % 2 ^ 64) ∷ []) (omega arith));
          homes_are = ap (put_back s.homes) has ∙ ap (λ hs. set hs 0 (some home)) r.homes_are;
          lies = (refl, cc (f.grounded, grounded));
          queued = λ i j q.
              let o = r.queued (suc i) j (sym (tail_at r.queue i) ∙ q) in
              let other : j ≢ id = λ e.
              let same : o.0 ≡ v = one_there s.views id o.0 v (subst (λ j. get_elem? s.views j ≡ some o.0) e o.1) here in
              let tickets : t ≡ r.served + suc i = some-injective _ _ (sym (ap ticket turn) ∙ sym (ap (λ (x : View E G). ticket x.stage) same) ∙ o.2) in
              let now = k.0 in
              omega arith
              in
              (o.0, set_else s.views id j w other ∙ o.1, o.2 ∙ ap some (omega arith));
          knows = seats_stay (λ j d. StageRule entries client ground (r.served + 1) (tail r.queue) (entries x) (some home) j d.stage) s.views id w tt
              (λ j d other g. knows_next r.served r.queue r.present (entries x) r.home (some home) id j k.1 other more d.stage (r.knows j d g));
          fits = seats_stay (λ j d. IsLive d.stage → SeatRule entries client ground (entries x) r.world r.all r.boss j d) s.views id w
              (λ _. record {
                saw = prefix_self (entries x);
                grounded = f.grounded;
                mine = refl;
                counts = f.counts;
                theirs = λ n es i. let o = f.theirs n es i in (by_other client n v.number r.present (entries x) (λ e. r.once id v here live es (subst (λ n. In (n, es) v.joined) e i)) grows ∙ o.0, o.1);
                may_split = f.may_split;
              })
              (λ j d other g ld. fits_next r.present (entries x) r.world r.all r.boss j v.number d grows (λ e. other (sym (r.apart id v here live j d g ld (inl e))))
              (λ n es i e. other (sym (r.apart id v here live j d g ld (inr (es, subst (λ n. In (n, es) d.joined) e i))))) (r.fits j d g ld));
          apart = apart_stays s.views id v w here live refl refl r.apart;
          once = once_stays s.views id v w here live refl refl r.once;
          foreign = λ n out. by_other client n v.number r.present (entries x) (λ e. out (subst (λ n. In n r.all) (sym e) f.counts)) grows ∙ r.foreign n out;
          small = r.small;
        },
        (x, has, ap (λ (c : List (ℕ × Option V)). (w, rest c)) has),
      )
