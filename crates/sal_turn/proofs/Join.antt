-- Taking another seat in keeps the rule.
use Rattle.std.proofs.Common.{◌≡◌, ◌≢◌, ◌⊎◌, ℕ, ◌≤◌, Bool, true, false, List, ◌∷◌, ◌++◌, length, set, refl, sym, ap, ◌∙◌, subst, inl, inr, ⊎_elim, Option, cond, ◌||◌, leb}
use lib.Seq.{set-get_or}
use mathlib.Core.Option.{some, none}
use mathlib.Core.List.{IsPrefix}
use lib.ListN.{get_elem?}
use Rattle.atomic_table.specs.Table.{State, Me, step, keeps, Allows, Joins}
use Rattle.atomic_table.proofs.Lists.{set_else}
use Rattle.sal_turn.specs.declared.view.View.{View}
use Rattle.sal_turn.specs.declared.view.Stage.TheVariants.{Idle, Compares}
use Rattle.sal_turn.specs.Entries.{entries_by}
use Rattle.sal_turn.specs.Lists.{In, longer, shorter}
use Rattle.sal_turn.specs.Rule.{SeatRule, StageRule, LockRule}
use Rattle.sal_turn.specs.Stages.{IsLive, ticket, has_turn}
use Rattle.sal_turn.specs.Tells.{CompareTells}
use Rattle.sal_turn.specs.Views.{at_stage, spent, comparing, AnswersFor}
use Rattle.sal_turn.proofs.Lists.{prefix_shorter, in_either}
use Rattle.sal_turn.proofs.EachSeat.{seats_stay}
use Rattle.sal_turn.proofs.Stays.{lies_stays, queued_stays, restages}

module _ {V E G : Type 0} (entries : V → List E) (client : E → ℕ) (ground : V → G) where
  abbrev Rule : State (Option V) (View E G) → Type 0
  Rule = LockRule entries client ground

  -- two lists seen are CompareTells
  pub compares : (slots id : ℕ) (me : Me (Option V) (View E G)) (l : List E) → me.0.stage ≡ Compares l → length l ≤ length me.0.seen → Allows Rule slots id me 1 (λ n. n) (CompareTells entries client ground (step slots 1 0 0 none) me)
  compares slots id me l stage le s r len here fits =
      let v = me.0 in
      let live : IsLive v.stage = subst IsLive (sym stage) tt in
      let rule = restages entries client ground s id v Idle r here live (ap ticket stage) (ap has_turn stage) tt in
      let k : IsPrefix l r.present = subst (StageRule entries client ground r.served r.queue r.present r.home id) stage (r.knows id v here) in (
        at_stage Idle v,
        keeps,
        tt,
        subst (λ (ws : List ℕ). Rule record { words = ws; homes = s.homes; views = set s.views id (at_stage Idle v) }) (sym (set-get_or s.words 1 0)) rule,
        (l, stage, refl, prefix_shorter l v.seen r.present k (r.fits id v here live).saw le),
      )

  longer_starts : (xs ys present : List E) → IsPrefix xs present → IsPrefix ys present → IsPrefix (longer xs ys) present
  longer_starts xs ys present p q = either_of (leb (length xs) (length ys))
    where
      either_of : (b : Bool) → IsPrefix (cond b ys xs) present
      either_of true = q
      either_of false = p

  shorter_starts : (xs ys present : List E) → IsPrefix xs present → IsPrefix ys present → IsPrefix (shorter xs ys) present
  shorter_starts xs ys present p q = either_of (leb (length xs) (length ys))
    where
      either_of : (b : Bool) → IsPrefix (cond b xs ys) present
      either_of true = p
      either_of false = q

  -- one of two may split: which, and what it gave
  one_may : (a b : Bool) → a || b ≡ true → (a ≡ true) ⊎ (b ≡ true)
  one_may true b e = inl refl
  one_may false b e = inr e

  given_all : (a b : Bool) (xs ys all : List ℕ) → (a ≡ true → xs ≡ all) → (b ≡ true → ys ≡ all) → a || b ≡ true → cond a xs ys ≡ all
  given_all true b xs ys all p q e = p refl
  given_all false b xs ys all p q e = q e

  -- join: the second seat is spent
  pub joins : (id : ℕ) (v : View E G) (other : ℕ) (w : View E G) → v.stage ≡ Idle → w.stage ≡ Idle → Joins Rule id v other w (comparing v w) spent
  joins id v other w idle idle' s r here ne there' =
      let b : View E G = comparing v w in
      let one : List (View E G) = set s.views id b in
      let two : List (View E G) = set one other spent in
      let there : get_elem? s.views other ≡ some w = sym (set_else s.views id other b ne) ∙ there' in
      let lv : IsLive v.stage = subst IsLive (sym idle) tt in
      let lw : IsLive w.stage = subst IsLive (sym idle') tt in
      let f = r.fits id v here lv in
      let g = r.fits other w there lw in
      let boss : ℕ = cond b.splits id r.boss in
      let not_mine : (k : ℕ) → AnswersFor w k → v.number ≢ k = λ k a e. ne (sym (r.apart id v here lv other w there lw (subst (AnswersFor w) (sym e) a))) in
      -- of a seat other than these two
      let stays : (K : ℕ → View E G → Type 0) → K id b → K other spent → ((j : ℕ) (d : View E G) → j ≢ id → j ≢ other → get_elem? s.views j ≡ some d → K j d) → (j : ℕ) (d : View E G) → get_elem? two j ≡ some d → K j d
      = λ K mine gone others. seats_stay K one other spent gone
      (λ j d apart h. seats_stay (λ j d. j ≢ other → K j d) s.views id b (λ _. mine) (λ j d away at apart. others j d away apart at) j d h apart)
      in record {
        present = r.present;
        world = r.world;
        served = r.served;
        queue = r.queue;
        all = r.all;
        boss = boss;
        home = r.home;
        words_are = r.words_are;
        homes_are = r.homes_are;
        lies = lies_stays entries client ground r.present r.world r.queue r.queue one other w spent there' (ap has_turn idle') (λ j q. q) r.home (lies_stays entries client ground r.present r.world r.queue r.queue s.views id v b here (ap has_turn idle) (λ j q. q) r.home r.lies);
        queued = queued_stays entries client ground r.served r.queue one other w spent there' (ap ticket idle') (queued_stays entries client ground r.served r.queue s.views id v b here (ap ticket idle) r.queued);
        knows = stays (λ j d. StageRule entries client ground r.served r.queue r.present r.home j d.stage) (shorter_starts v.seen w.seen r.present f.saw g.saw) tt (λ j d _ _ h. r.knows j d h);
        fits = stays (λ j d. IsLive d.stage → SeatRule entries client ground r.present r.world r.all boss j d)
            (λ _. record {
              saw = longer_starts v.seen w.seen r.present f.saw g.saw;
              grounded = f.grounded;
              mine = f.mine;
              counts = f.counts;
              theirs = λ k es i. ⊎_elim
                  (λ (h : In (k, es) v.joined). f.theirs k es h)
                  (λ (h : In (k, es) ((w.number, w.own) ∷ w.joined)). ⊎_elim
                  (λ (e : (w.number, w.own) ≡ (k, es)). (ap (λ (n : ℕ). entries_by client n r.present) (sym (ap (λ (p : ℕ × List E). p.0) e)) ∙ g.mine ∙ ap (λ (p : ℕ × List E). p.1) e, subst (λ n. In n r.all) (ap (λ (p : ℕ × List E). p.0) e) g.counts))
                  (λ (h : In (k, es) w.joined). g.theirs k es h)
                  h)
                  (in_either (k, es) v.joined ((w.number, w.own) ∷ w.joined) i);
              may_split = λ e. (ap (λ c. cond c id r.boss) (sym e), given_all v.splits w.splits v.given w.given r.all (λ h. (f.may_split h).1) (λ h. (g.may_split h).1) e);
            })
            (λ dead. absurd dead)
            (λ j d away apart h ld. let o = r.fits j d h ld in record {
              saw = o.saw;
              grounded = o.grounded;
              mine = o.mine;
              counts = o.counts;
              theirs = o.theirs;
              may_split = λ e. let m = o.may_split e in (still j m.0 away apart v.splits w.splits (λ h. (f.may_split h).0) (λ h. (g.may_split h).0), m.1);
            });
        apart = stays (λ j x. IsLive x.stage → (i : ℕ) (y : View E G) → get_elem? two i ≡ some y → IsLive y.stage → AnswersFor y x.number → j ≡ i)
            (λ _. stays (λ i y. IsLive y.stage → AnswersFor y v.number → id ≡ i) (λ _ _. refl) (λ dead. absurd dead) (λ i y _ _ h ly a. r.apart id v here lv i y h ly a))
            (λ dead. absurd dead)
            (λ j x away apart h lx. stays (λ i y. IsLive y.stage → AnswersFor y x.number → j ≡ i)
            (λ _ a. absurd (⊎_elim (λ (p : AnswersFor v x.number). away (r.apart j x h lx id v here lv p)) (λ (p : AnswersFor w x.number). apart (r.apart j x h lx other w there lw p)) (one_answers v w x.number a)))
            (λ dead. absurd dead)
            (λ i y _ _ hy ly a. r.apart j x h lx i y hy ly a));
        once = stays (λ j x. IsLive x.stage → (es : List E) → ¬ In (x.number, es) x.joined)
            (λ _ es i. ⊎_elim (λ (h : In (v.number, es) v.joined). r.once id v here lv es h)
            (λ (h : In (v.number, es) ((w.number, w.own) ∷ w.joined)). ⊎_elim (λ (e : (w.number, w.own) ≡ (v.number, es)). not_mine v.number (inl (ap (λ (p : ℕ × List E). p.0) e)) refl) (λ (h : In (v.number, es) w.joined). not_mine v.number (inr (es, h)) refl) h)
            (in_either (v.number, es) v.joined ((w.number, w.own) ∷ w.joined) i))
            (λ dead. absurd dead)
            (λ j x _ _ h. r.once j x h);
        foreign = r.foreign;
        small = r.small;
      }
    where
      -- another seat that may split is still the one
      still : (j : ℕ) {boss' : ℕ} → j ≡ boss' → j ≢ id → j ≢ other → (a b : Bool) → (a ≡ true → id ≡ boss') → (b ≡ true → other ≡ boss') → j ≡ cond (a || b) id boss'
      still j e away apart true b p q = absurd (away (e ∙ sym (p refl)))
      still j e away apart false true p q = absurd (apart (e ∙ sym (q refl)))
      still j e away apart false false p q = e

      one_answers : (v w : View E G) (k : ℕ) → AnswersFor (comparing v w) k → AnswersFor v k ⊎ AnswersFor w k
      one_answers v w k a = ⊎_elim (λ (e : v.number ≡ k). inl (inl e))
          (λ (h : (es : List E) × In (k, es) (v.joined ++ ((w.number, w.own) ∷ w.joined))). ⊎_elim
          (λ (i : In (k, h.0) v.joined). inl (inr (h.0, i)))
          (λ (i : In (k, h.0) ((w.number, w.own) ∷ w.joined)). ⊎_elim (λ (e : (w.number, w.own) ≡ (k, h.0)). inr (inl (ap (λ (p : ℕ × List E). p.0) e))) (λ (i : In (k, h.0) w.joined). inr (inr (h.0, i))) i)
          (in_either (k, h.0) v.joined ((w.number, w.own) ∷ w.joined) h.1))
          a
