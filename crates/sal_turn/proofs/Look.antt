-- A look at the turn served keeps the rule, and takes the value if the turn has come.
use Rattle.std.proofs.Common.{◌≡◌, ℕ, ◌+◌, ◌%◌, ◌^◌, ◌<◌, ◌≤◌, true≢false, List, length, get_or, set, refl, sym, ap, ◌∙◌, subst, arith, Option, Some, None}
use lib.Seq.{set-get_or}
use mathlib.Core.Option.{some, none, some-injective, some-ne-none}
use mathlib.Core.Option as maybe
use mathlib.Core.Logic.{dite}
use mathlib.Core.List.{IsPrefix}
use native.Mathlib.Decide.{ℕ_discrete}
use lib.ListN.{get_elem?}
use Rattle.atomic_table.specs.Table.{State, Me, step, keeps, takes, Act, Valid, carried_after, stepped, Allows}
use Rattle.atomic_table.proofs.Lists.{set_else, set_again, one_turn}
use Rattle.sal_turn.specs.declared.view.View.{View}
use Rattle.sal_turn.specs.declared.view.Stage.{Stage}
use Rattle.sal_turn.specs.declared.view.Stage.TheVariants.{Spent, Idle, Names, Waits, HasTurn, Compares}
use Rattle.sal_turn.specs.Entries.{entries_by}
use Rattle.sal_turn.specs.Rule.{SeatRule, StageRule, ValueRule, LockRule}
use Rattle.sal_turn.specs.Stages.{IsLive, ticket, has_turn}
use Rattle.sal_turn.specs.Tells.{LookTells}
use Rattle.sal_turn.specs.Views.{at_stage}
use Rattle.sal_turn.proofs.Lists.{set_at, one_there, below}
use Rattle.sal_turn.proofs.EachSeat.{seats_stay, apart_stays, once_stays}
use Rattle.sal_turn.proofs.Stays.{restaged}
use Rattle.sal_turn.proofs.Few.{few}

module _ {V E G : Type 0} (entries : V → List E) (client : E → ℕ) (ground : V → G) where
  abbrev Rule : State (Option V) (View E G) → Type 0
  Rule = LockRule entries client ground

  word_1 : (s : State (Option V) (View E G)) (r : Rule s) → get_or s.words 1 0 ≡ r.served % 2 ^ 64
  word_1 s r = ap (λ ws. get_or ws 1 0) r.words_are

  -- the rule of a seat stays when the value is taken out
  knows_out : (served : ℕ) (queue : List ℕ) (present : List E) (home : maybe.Option (Option V)) (j : ℕ) (st : Stage E) → StageRule entries client ground served queue present home j st → StageRule entries client ground served queue present none j st
  knows_out served queue present home j Spent k = tt
  knows_out served queue present home j Idle k = tt
  knows_out served queue present home j (Names n) k = tt
  knows_out served queue present home j (Waits t) k = k
  knows_out served queue present home j (HasTurn t found) k = (k.0, k.1, k.2, refl)
  knows_out served queue present home j (Compares l) k = k

  unmoved : (s : State (Option V) (View E G)) (i id : ℕ) (v : View E G) (cs : List (ℕ × Option V)) → get_elem? s.views id ≡ some v → Rule s → Rule (stepped s i (get_or s.words i 0) id cs v keeps)
  unmoved s i id v cs here r = subst Rule (λ k. record { words = sym (set-get_or s.words i 0) k; homes = s.homes; views = sym (set_again s.views id v here) k }) r

  abbrev Looks : State (Option V) (View E G) → ℕ → ℕ → Me (Option V) (View E G) → Type 0
  Looks s slots id me = (w : View E G) × (a : Act (Option V)) × Valid s.homes me.1 a × Rule (stepped s 1 (get_or s.words 1 0) id me.1 w a) × LookTells entries client ground (step slots 1 0 0 none) me (get_or s.words 1 0) (w, carried_after me.1 a)

  -- its turn has come, and the value is at home
  takes_turn : (s : State (Option V) (View E G)) (slots id : ℕ) (me : Me (Option V) (View E G)) (t : ℕ) (r : Rule s) → me.0.stage ≡ Waits t → get_elem? s.views id ≡ some me.0 → get_or s.words 1 0 ≡ t % 2 ^ 64 → t ≡ r.served → get_elem? r.queue 0 ≡ some id
      → (home : maybe.Option (Option V)) → r.home ≡ home → Looks s slots id me
  takes_turn s slots id me t r waits here hit now first (some (Some x)) is =
      let v = me.0 in
      let w = at_stage (HasTurn t (entries x)) v in
      let live : IsLive v.stage = subst IsLive (sym waits) tt in
      let f = r.fits id v here live in
      let l : (entries x ≡ r.present) × (ground x ≡ r.world) = subst (ValueRule entries client ground r.present r.world r.queue s.views) is r.lies in (
        w,
        takes 0 (Some x),
        ap (λ hs. get_elem? hs 0) r.homes_are ∙ ap some is,
        record {
          present = r.present;
          world = r.world;
          served = r.served;
          queue = r.queue;
          all = r.all;
          boss = r.boss;
          home = none;
          words_are = ap (λ ws. set ws 1 (get_or ws 1 0)) r.words_are;
          homes_are = ap (λ hs. set hs 0 none) r.homes_are;
          lies = (id, w, first, set_at s.views id w v here, refl);
          queued = λ i j q. let o = r.queued i j q in dite (ℕ_discrete j id)
              (λ same. (
                w,
                subst (λ j. get_elem? (set s.views id w) j ≡ some w) (sym same) (set_at s.views id w v here),
                sym (ap ticket waits) ∙ sym (ap (λ (x : View E G). ticket x.stage) (one_there s.views id o.0 v (subst (λ j. get_elem? s.views j ≡ some o.0) same o.1) here)) ∙ o.2,
              ))
              (λ other. (o.0, set_else s.views id j w other ∙ o.1, o.2));
          knows = seats_stay (λ j d. StageRule entries client ground r.served r.queue r.present none j d.stage) s.views id w (now, first, l.0, refl) (λ j d _ g. knows_out r.served r.queue r.present r.home j d.stage (r.knows j d g));
          fits = seats_stay (λ j d. IsLive d.stage → SeatRule entries client ground r.present r.world r.all r.boss j d) s.views id w (λ _. restaged entries client ground r.present r.world r.all r.boss id v (HasTurn t (entries x)) f) (λ j d _ g. r.fits j d g);
          apart = apart_stays s.views id v w here live refl refl r.apart;
          once = once_stays s.views id v w here live refl refl r.once;
          foreign = r.foreign;
          small = r.small;
        },
        (t, waits, (λ _. (x, refl, (subst (IsPrefix v.seen) (sym l.0) f.saw, f.grounded ∙ ap Some (sym l.1), ap (entries_by client v.number) l.0 ∙ f.mine))), (λ ne. absurd (ne hit))),
      )
  takes_turn s slots id me t r waits here hit now first (some None) is = absurd (subst (ValueRule entries client ground r.present r.world r.queue s.views) is r.lies)
  takes_turn s slots id me t r waits here hit now first none is =
      let l = subst (ValueRule entries client ground r.present r.world r.queue s.views) is r.lies in
      let who : l.0 ≡ id = one_there r.queue 0 l.0 id l.2 first in
      let what : l.1 ≡ me.0 = one_there s.views id l.1 me.0 (subst (λ j. get_elem? s.views j ≡ some l.1) who l.3) here in
      absurd (true≢false (sym l.4 ∙ ap (λ (x : View E G). has_turn x.stage) what ∙ ap has_turn waits))

  -- look: the seat takes the value if its turn has come
  pub looks : (slots id : ℕ) (me : Me (Option V) (View E G)) (t : ℕ) → me.0.stage ≡ Waits t → Allows Rule slots id me 1 (λ n. n) (LookTells entries client ground (step slots 1 0 0 none) me)
  looks slots id me t waits s r len here fits =
      let k : (i : ℕ) × (t ≡ r.served + i) × (get_elem? r.queue i ≡ some id) = subst (StageRule entries client ground r.served r.queue r.present r.home id) waits (r.knows id me.0 here) in
      let near : k.0 < length r.queue = below r.queue k.0 id k.2 in
      let bound : length r.queue ≤ 2 ^ 32 = few entries client ground s r in
      let on = k.1 in
      let result : Looks s slots id me = dite (ℕ_discrete (get_or s.words 1 0) (t % 2 ^ 64))
      (λ hit.
      let now : r.served ≡ t = one_turn r.served t (2 ^ 64) (omega arith) (omega arith) (sym (word_1 s r) ∙ hit) in
      let first : k.0 ≡ 0 = omega arith in
      takes_turn s slots id me t r waits here hit (sym now) (subst (λ i. get_elem? r.queue i ≡ some id) first k.2) r.home refl)
      (λ miss. (me.0, keeps, tt, unmoved s 1 id me.0 me.1 here r, (t, waits, (λ e. absurd (miss e)), (λ _. refl))))
      in
      result
