-- Giving a number away keeps the rule.
use Rattle.std.proofs.Common.{◌≡◌, ℕ, ◌^◌, ◌<◌, ◌==◌, true, true≢false, List, [], ◌∷◌, ◌++◌, length, get_or, set, refl, sym, ap, ◌∙◌, subst, inl, ⊎_elim, Option, Some, None}
use lib.Seq.{set-get_or}
use prog.Atomic.{either}
use mathlib.Core.Option.{some, none, some-injective, some-ne-none}
use mathlib.Core.Option as maybe
use lib.ListN.{get_elem?}
use Rattle.atomic_table.specs.Table.{State, Me, step, keeps, Allows, Splits}
use Rattle.atomic_table.proofs.Lists.{at_longer}
use Rattle.sal_turn.specs.declared.view.View.{View}
use Rattle.sal_turn.specs.declared.view.Stage.TheVariants.{Idle, Names}
use Rattle.sal_turn.specs.Lists.{In}
use Rattle.sal_turn.specs.Rule.{SeatRule, StageRule, ValueRule, LockRule}
use Rattle.sal_turn.specs.Stages.{IsLive, ticket, has_turn, number_named}
use Rattle.sal_turn.specs.Tells.{NameTells}
use Rattle.sal_turn.specs.Views.{at_stage, giver, newcomer, AnswersFor}
use Rattle.sal_turn.proofs.Lists.{in_front, in_behind, in_either, same_word}
use Rattle.sal_turn.proofs.EachSeat.{seats_stay, ends_stay, apart_stays, once_stays, Apart}
use Rattle.sal_turn.proofs.Stays.{lies_stays, queued_stays, restages}

module _ {V E G : Type 0} (entries : V → List E) (client : E → ℕ) (ground : V → G) where
  abbrev Rule : State (Option V) (View E G) → Type 0
  Rule = LockRule entries client ground

  lies_more : (present : List E) (world : G) (queue : List ℕ) (vs more : List (View E G)) → (home : maybe.Option (Option V)) → ValueRule entries client ground present world queue vs home → ValueRule entries client ground present world queue (vs ++ more) home
  lies_more present world queue vs more (some (Some x)) l = l
  lies_more present world queue vs more (some None) l = l
  lies_more present world queue vs more none l = (l.0, l.1, l.2, at_longer vs more l.0 l.1 l.3, l.4)

  -- a number is put into the view, and no cell of the table changes
  pub tells : (slots id k : ℕ) (me : Me (Option V) (View E G)) → me.0.stage ≡ Idle → Allows Rule slots id me 0 (λ n. either (n == k) k n) (NameTells entries client ground (step slots 0 k k none) me)
  tells slots id k me idle s r len here fits =
      let v = me.0 in
      let rule = restages entries client ground s id v (Names k) r here (subst IsLive (sym idle) tt) (ap ticket idle) (ap has_turn idle) tt in
      let same : set s.words 0 (either (get_or s.words 0 0 == k) k (get_or s.words 0 0)) ≡ s.words = ap (set s.words 0) (same_word (get_or s.words 0 0) k) ∙ set-get_or s.words 0 0 in
      (at_stage (Names k) v, keeps, tt, subst (λ (ws : List ℕ). Rule record { words = ws; homes = s.homes; views = set s.views id (at_stage (Names k) v) }) (sym same) rule, refl)

  -- split: the number was not given, and is now
  pub splits : (id : ℕ) (v : View E G) (n : ℕ) → v.stage ≡ Names n → v.splits ≡ true → ¬ In n v.given → n < 2 ^ 32 → Splits Rule id v (giver v) (newcomer (number_named v.stage) v)
  splits id v n stage may new small s r here =
      let live : IsLive v.stage = subst IsLive (sym stage) tt in
      let f = r.fits id v here live in
      let boss = f.may_split may in
      let k : ℕ = number_named v.stage in
      let is : n ≡ k = sym (ap number_named stage) in
      let out : ¬ In k r.all = λ i. new (subst (In n) (sym boss.1) (subst (λ m. In m r.all) (sym is) i)) in
      let left : View E G = giver v in
      let right : View E G = newcomer k v in
      let all : List ℕ = r.all ++ k ∷ [] in
      let before : (m : ℕ) → In m r.all → In m all = λ m i. in_front m r.all (k ∷ []) i in
      let one : List (View E G) = set s.views id left in
      let in_all : (j : ℕ) (d : View E G) → get_elem? one j ≡ some d → IsLive d.stage → (m : ℕ) → AnswersFor d m → In m r.all =
      seats_stay (λ j d. IsLive d.stage → (m : ℕ) → AnswersFor d m → In m r.all) s.views id left
      (λ _ m a. ⊎_elim (λ (e : v.number ≡ m). subst (λ m. In m r.all) e f.counts) (λ (h : (es : List E) × In (m, es) v.joined). (f.theirs m h.0 h.1).1) a)
      (λ j d _ g ld m a. let o = r.fits j d g ld in ⊎_elim (λ (e : d.number ≡ m). subst (λ m. In m r.all) e o.counts) (λ (h : (es : List E) × In (m, es) d.joined). (o.theirs m h.0 h.1).1) a)
      in
      let apart_one : Apart one = apart_stays s.views id v left here live refl refl r.apart in
      record {
        present = r.present;
        world = r.world;
        served = r.served;
        queue = r.queue;
        all = all;
        boss = r.boss;
        home = r.home;
        words_are = r.words_are;
        homes_are = r.homes_are;
        lies = lies_more r.present r.world r.queue one (right ∷ []) r.home (lies_stays entries client ground r.present r.world r.queue r.queue s.views id v left here (ap has_turn stage) (λ j q. q) r.home r.lies);
        queued = λ i j q. let o = queued_stays entries client ground r.served r.queue s.views id v left here (ap ticket stage) r.queued i j q in (o.0, at_longer one (right ∷ []) j o.0 o.1, o.2);
        knows = ends_stay (λ j d. StageRule entries client ground r.served r.queue r.present r.home j d.stage) one right tt
            (seats_stay (λ j d. StageRule entries client ground r.served r.queue r.present r.home j d.stage) s.views id left tt (λ j d _ g. r.knows j d g));
        fits = ends_stay (λ j d. IsLive d.stage → SeatRule entries client ground r.present r.world all r.boss j d) one right
            (λ _. record { saw = f.saw; grounded = f.grounded; mine = r.foreign k out; counts = in_behind k r.all (k ∷ []) (inl refl); theirs = λ m es i. absurd i; may_split = λ e. absurd (true≢false (sym e)) })
            (seats_stay (λ j d. IsLive d.stage → SeatRule entries client ground r.present r.world all r.boss j d) s.views id left
            (λ _. record { saw = f.saw; grounded = f.grounded; mine = f.mine; counts = before v.number f.counts; theirs = λ m es i. let o = f.theirs m es i in (o.0, before m o.1); may_split = λ _. (boss.0, ap (λ (ks : List ℕ). ks ++ k ∷ []) boss.1) })
            (λ j d other g ld. let o = r.fits j d g ld in record { saw = o.saw; grounded = o.grounded; mine = o.mine; counts = before d.number o.counts; theirs = λ m es i. let p = o.theirs m es i in (p.0, before m p.1); may_split = λ e. absurd (other ((o.may_split e).0 ∙ sym boss.0)) }));
        apart = ends_stay (λ j x. IsLive x.stage → (i : ℕ) (y : View E G) → get_elem? (one ++ right ∷ []) i ≡ some y → IsLive y.stage → AnswersFor y x.number → j ≡ i) one right
            (λ _. ends_stay (λ i y. IsLive y.stage → AnswersFor y k → length one ≡ i) one right (λ _ _. refl) (λ i y g ly a. absurd (out (in_all i y g ly k a))))
            (λ j x gx lx. ends_stay (λ i y. IsLive y.stage → AnswersFor y x.number → j ≡ i) one right
            (λ _ a. absurd (out (⊎_elim (λ (e : k ≡ x.number). subst (λ m. In m r.all) (sym e) (in_all j x gx lx x.number (inl refl))) (λ (h : (es : List E) × ⊥). absurd h.1) a)))
            (λ i y g ly a. apart_one j x gx lx i y g ly a));
        once = ends_stay (λ j x. IsLive x.stage → (es : List E) → ¬ In (x.number, es) x.joined) one right (λ _ es i. i) (once_stays s.views id v left here live refl refl r.once);
        foreign = λ m o. r.foreign m (λ i. o (before m i));
        small = λ m i. ⊎_elim (λ (h : In m r.all). r.small m h) (λ (h : In m (k ∷ [])). ⊎_elim (λ (e : k ≡ m). subst (λ m. m < 2 ^ 32) (is ∙ e) small) (λ (h : ⊥). absurd h) h) (in_either m r.all (k ∷ []) i);
      }
