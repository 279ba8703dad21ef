-- The rule of a lock that is closed.
use Rattle.std.proofs.Common.{◌≡◌, ℕ, true, true≢false, List, [], refl, sym, ap, ◌∙◌, subst, Option, Some, None}
use mathlib.Core.Option.{some, none, some-injective, some-ne-none}
use mathlib.Core.Option as maybe
use mathlib.Core.List.{IsPrefix}
use lib.ListN.{get_elem?}
use Rattle.atomic_table.specs.Table.{State, Final, Seen}
use Rattle.sal_turn.specs.declared.view.View.{View}
use Rattle.sal_turn.specs.declared.view.Stage.{Stage}
use Rattle.sal_turn.specs.declared.view.Stage.TheVariants.{Spent, Idle, Names, Waits, HasTurn, Compares}
use Rattle.sal_turn.specs.Entries.{entries_by}
use Rattle.sal_turn.specs.Lists.{In}
use Rattle.sal_turn.specs.Rule.{ValueRule, LockRule}
use Rattle.sal_turn.specs.Stages.{IsLive, has_turn}
use Rattle.sal_turn.specs.Views.{AnswersFor}
use Rattle.sal_turn.proofs.Lists.{one_there}

module _ {V E G : Type 0} (entries : V → List E) (client : E → ℕ) (ground : V → G) where
  abbrev Rule : State (Option V) (View E G) → Type 0
  Rule = LockRule entries client ground

  -- the result of closing a lock
  pub record Closes (v : View E G) (x : V) : Type 0 where
    pub seen : IsPrefix v.seen (entries x)
    pub grounded : v.ground ≡ Some (ground x)
    pub own : entries_by client v.number (entries x) ≡ v.own
    pub joined : (k : ℕ) (es : List E) → In (k, es) v.joined → entries_by client k (entries x) ≡ es
    pub others : (k : ℕ) → ¬ AnswersFor v k → entries_by client k (entries x) ≡ []

  found_home : (s : State (Option V) (View E G)) (r : Rule s) (id : ℕ) (v : View E G) → get_elem? s.views id ≡ some v → v.stage ≡ Idle → v.splits ≡ true → ((k : ℕ) → In k v.given → AnswersFor v k) → (home : maybe.Option (Option V)) → r.home ≡ home
      → (x : V) × (r.home ≡ some (Some x)) × Closes v x
  found_home s r id v here idle may whole (some (Some x)) is =
      let live : IsLive v.stage = subst IsLive (sym idle) tt in
      let f = r.fits id v here live in
      let l : (entries x ≡ r.present) × (ground x ≡ r.world) = subst (ValueRule entries client ground r.present r.world r.queue s.views) is r.lies in
      let at_present : (k : ℕ) → entries_by client k (entries x) ≡ entries_by client k r.present = λ k. ap (entries_by client k) l.0 in (
        x,
        is,
        record {
          seen = subst (IsPrefix v.seen) (sym l.0) f.saw;
          grounded = f.grounded ∙ ap Some (sym l.1);
          own = at_present v.number ∙ f.mine;
          joined = λ k es i. at_present k ∙ (f.theirs k es i).0;
          others = λ k out. at_present k ∙ r.foreign k (λ i. out (whole k (subst (In k) (sym (f.may_split may).1) i)));
        },
      )
  found_home s r id v here idle may whole (some None) is = absurd (subst (ValueRule entries client ground r.present r.world r.queue s.views) is r.lies)
  found_home s r id v here idle may whole none is =
      let live : IsLive v.stage = subst IsLive (sym idle) tt in
      let f = r.fits id v here live in
      let l = subst (ValueRule entries client ground r.present r.world r.queue s.views) is r.lies in
      let lives : IsLive l.1.stage = turned_lives l.1.stage l.4 in
      let counts : In l.1.number v.given = subst (In l.1.number) (sym (f.may_split may).1) (r.fits l.0 l.1 l.3 lives).counts in
      let who : l.0 ≡ id = r.apart l.0 l.1 l.3 lives id v here live (whole l.1.number counts) in
      let what : l.1 ≡ v = one_there s.views id l.1 v (subst (λ j. get_elem? s.views j ≡ some l.1) who l.3) here in
      absurd (true≢false (sym l.4 ∙ ap (λ (x : View E G). has_turn x.stage) what ∙ ap has_turn idle))
    where
      turned_lives : (st : Stage E) → has_turn st ≡ true → IsLive st
      turned_lives Spent e = true≢false (sym e)
      turned_lives Idle e = tt
      turned_lives (Names n) e = tt
      turned_lives (Waits n) e = tt
      turned_lives (HasTurn n es) e = tt
      turned_lives (Compares es) e = tt

  -- close: the value is in the slot
  pub closes : (id : ℕ) (v : View E G) (ws : List ℕ) (xs : List (Option V)) → v.stage ≡ Idle → v.splits ≡ true → ((k : ℕ) → In k v.given → AnswersFor v k) → Final (Seen Rule id v) ws xs → (x : V) × (get_elem? xs 0 ≡ some (Some x)) × Closes v x
  closes id v ws xs idle may whole h =
      let s = h.0 in
      let r = h.1.0 in
      let o = found_home s r id v h.1.1 idle may whole r.home refl in
      (o.0, h.4 0 (Some o.0) (ap (λ hs. get_elem? hs 0) r.homes_are ∙ ap some o.1), o.2)

  pub closes_as : (id : ℕ) (v u : View E G) (ws : List ℕ) (xs : List (Option V)) (out : Option V) → v ≡ u → v.stage ≡ Idle → u.splits ≡ true → ((k : ℕ) → In k u.given → AnswersFor u k) → Final (Seen Rule id v) ws xs → get_elem? xs 0 ≡ some out
      → (x : V) × (out ≡ Some x) × Closes u x
  closes_as id v u ws xs out is idle may whole last took =
      let o = closes id u ws xs (ap (λ (v : View E G). v.stage) (sym is) ∙ idle) may whole (subst (λ (v : View E G). Final (Seen Rule id v) ws xs) is last) in
      (o.0, some-injective out (Some o.0) (sym took ∙ o.1), o.2)

  pub closes_at : (u : View E G) (out : Option V) (y : V) → (x : V) × (out ≡ Some x) × Closes u x → out ≡ Some y → Closes u y
  closes_at u out y h e = let same : h.0 ≡ y = cc (h.1, e) in subst (Closes u) same h.2
