-- The rule of the value and of tickets stays true when another seat changes.
use Rattle.std.proofs.Common.{◌≡◌, ℕ, ◌+◌, false, true≢false, List, set, refl, sym, ap, ◌∙◌, subst, Option, Some, None}
use mathlib.Core.Option.{some, none, some-injective, some-ne-none}
use mathlib.Core.Option as maybe
use lib.ListN.{get_elem?}
use Rattle.atomic_table.specs.Table.{State}
use Rattle.atomic_table.proofs.Lists.{set_else}
use Rattle.sal_turn.specs.declared.view.View.{View}
use Rattle.sal_turn.specs.declared.view.Stage.{Stage}
use Rattle.sal_turn.specs.Rule.{SeatRule, StageRule, ValueRule, LockRule}
use Rattle.sal_turn.specs.Stages.{IsLive, ticket, has_turn}
use Rattle.sal_turn.specs.Views.{at_stage}
use Rattle.sal_turn.proofs.Lists.{one_there}
use Rattle.sal_turn.proofs.EachSeat.{seats_stay, apart_stays, once_stays}

module _ {V E G : Type 0} (entries : V → List E) (client : E → ℕ) (ground : V → G) where
  abbrev Rule : State (Option V) (View E G) → Type 0
  Rule = LockRule entries client ground

  -- the stage does not matter to what holds of a seat
  pub restaged : (present : List E) (world : G) (all : List ℕ) (boss id : ℕ) (v : View E G) (st : Stage E) → SeatRule entries client ground present world all boss id v → SeatRule entries client ground present world all boss id (at_stage st v)
  restaged present world all boss id v st f = record { saw = f.saw; grounded = f.grounded; mine = f.mine; counts = f.counts; theirs = f.theirs; may_split = f.may_split }

  -- a seat that has not its turn changes
  pub lies_stays : (present : List E) (world : G) (queue queue' : List ℕ) (vs : List (View E G)) (me : ℕ) (v w : View E G) → get_elem? vs me ≡ some v → has_turn v.stage ≡ false → ((j : ℕ) → get_elem? queue 0 ≡ some j → get_elem? queue' 0 ≡ some j) → (home : maybe.Option (Option V))
      → ValueRule entries client ground present world queue vs home → ValueRule entries client ground present world queue' (set vs me w) home
  lies_stays present world queue queue' vs me v w at not_turned first (some (Some x)) l = l
  lies_stays present world queue queue' vs me v w at not_turned first (some None) l = l
  lies_stays present world queue queue' vs me v w at not_turned first none l = (
    l.0,
    l.1,
    first l.0 l.2,
    set_else vs me l.0 w (λ e. true≢false (sym l.4 ∙ ap (λ (x : View E G). has_turn x.stage) (one_there vs me l.1 v (subst (λ j. get_elem? vs j ≡ some l.1) e l.3) at) ∙ not_turned)) ∙ l.3,
    l.4,
  )

  abbrev Queued : ℕ → List ℕ → List (View E G) → Type 0
  Queued served queue vs = (i id : ℕ) → get_elem? queue i ≡ some id → (v : View E G) × (get_elem? vs id ≡ some v) × (ticket v.stage ≡ some (served + i))

  -- a seat without a ticket changes
  pub queued_stays : (served : ℕ) (queue : List ℕ) (vs : List (View E G)) (me : ℕ) (v w : View E G) → get_elem? vs me ≡ some v → ticket v.stage ≡ none → Queued served queue vs → Queued served queue (set vs me w)
  queued_stays served queue vs me v w at no_ticket all i j q = let o = all i j q in
      (o.0, set_else vs me j w (λ e. some-ne-none _ (sym o.2 ∙ (ap (λ (x : View E G). ticket x.stage) (one_there vs me o.0 v (subst (λ j. get_elem? vs j ≡ some o.0) e o.1) at) ∙ no_ticket))) ∙ o.1, o.2)

  -- a seat between turns changes its stage
  pub restages : (s : State (Option V) (View E G)) (id : ℕ) (v : View E G) (st : Stage E) (r : Rule s) → get_elem? s.views id ≡ some v → IsLive v.stage → ticket v.stage ≡ none → has_turn v.stage ≡ false → StageRule entries client ground r.served r.queue r.present r.home id st
      → Rule record { words = s.words; homes = s.homes; views = set s.views id (at_stage st v) }
  restages s id v st r here live no_ticket not_turned knows = let w = at_stage st v in record {
    present = r.present;
    world = r.world;
    served = r.served;
    queue = r.queue;
    all = r.all;
    boss = r.boss;
    home = r.home;
    words_are = r.words_are;
    homes_are = r.homes_are;
    lies = lies_stays r.present r.world r.queue r.queue s.views id v w here not_turned (λ j q. q) r.home r.lies;
    queued = queued_stays r.served r.queue s.views id v w here no_ticket r.queued;
    knows = seats_stay (λ j d. StageRule entries client ground r.served r.queue r.present r.home j d.stage) s.views id w knows (λ j d _ g. r.knows j d g);
    fits = seats_stay (λ j d. IsLive d.stage → SeatRule entries client ground r.present r.world r.all r.boss j d) s.views id w (λ _. restaged r.present r.world r.all r.boss id v st (r.fits id v here live)) (λ j d _ g. r.fits j d g);
    apart = apart_stays s.views id v w here live refl refl r.apart;
    once = once_stays s.views id v w here live refl refl r.once;
    foreign = r.foreign;
    small = r.small;
  }
