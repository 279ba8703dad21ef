-- The rule of the lock: what holds for its two words, its slot and all seats between any two steps.
use Rattle.std.specs.Prelude.{◌≡◌, ℕ, ◌+◌, ◌%◌, ◌^◌, ◌<◌, true, List, [], ◌∷◌, length, Option, Some, None}
use mathlib.Core.Option.{some, none}
use mathlib.Core.Option as maybe
use mathlib.Core.List.{IsPrefix}
use lib.ListN.{get_elem?}
use Rattle.atomic_table.specs.Table.{State}
use Rattle.sal_turn.specs.Lists.{In}
use Rattle.sal_turn.specs.Entries.{entries_by}
use Rattle.sal_turn.specs.Stages.{IsLive, ticket, has_turn}
use Rattle.sal_turn.specs.Views.{AnswersFor}
use Rattle.sal_turn.specs.declared.view.View.{View}
use Rattle.sal_turn.specs.declared.view.Stage.{Stage}
use Rattle.sal_turn.specs.declared.view.Stage.TheVariants.{Spent, Idle, Names, Waits, HasTurn, Compares}

module _ {V E G : Type 0} (entries : V → List E) (client : E → ℕ) (ground : V → G) where
  -- for each seat that is not spent, where `all` are the numbers given and `boss` is the seat that may split
  pub record SeatRule (present : List E) (world : G) (all : List ℕ) (boss id : ℕ) (v : View E G) : Type 0 where
    pub saw : IsPrefix v.seen present
    pub grounded : v.ground ≡ Some world
    pub mine : entries_by client v.number present ≡ v.own
    pub counts : In v.number all
    pub theirs : (k : ℕ) (es : List E) → In (k, es) v.joined → (entries_by client k present ≡ es) × In k all
    pub may_split : v.splits ≡ true → (id ≡ boss) × (v.given ≡ all)

  module _ (served : ℕ) (queue : List ℕ) (present : List E) (home : maybe.Option (Option V)) (id : ℕ) where
    -- the rule for a seat at its stage
    abbrev pub StageRule : Stage E → Type 0
    StageRule Spent = Unit {0}
    StageRule Idle = Unit {0}
    StageRule (Names k) = Unit {0}
    StageRule (Waits t) = (i : ℕ) × (t ≡ served + i) × (get_elem? queue i ≡ some id)
    StageRule (HasTurn t found) = (t ≡ served) × (get_elem? queue 0 ≡ some id) × (found ≡ present) × (home ≡ none)
    StageRule (Compares seen) = IsPrefix seen present

  -- the value in the slot has the present entries and the ground; if the slot is empty, the first seat of the queue has the value
  abbrev pub ValueRule : List E → G → List ℕ → List (View E G) → maybe.Option (Option V) → Type 0
  ValueRule present world queue views (some (Some x)) = (entries x ≡ present) × (ground x ≡ world)
  ValueRule present world queue views (some None) = ⊥
  ValueRule present world queue views none = (id : ℕ) × (v : View E G) × (get_elem? queue 0 ≡ some id) × (get_elem? views id ≡ some v) × (has_turn v.stage ≡ true)

  -- `present` are the entries, `world` is the ground of the value that the lock was opened with, `served` is the turn served,
  -- `queue` has the seats with a ticket in the order of their tickets, of which the first is `served`, `all` are the numbers given,
  -- `boss` is the seat that may split, and `home` is the slot. Tickets are unbounded numbers; the words have them modulo 2 ^ 64
  pub record LockRule (s : State (Option V) (View E G)) : Type 0 where
    pub present : List E
    pub world : G
    pub served : ℕ
    pub queue : List ℕ
    pub all : List ℕ
    pub boss : ℕ
    pub home : maybe.Option (Option V)
    -- the next ticket, and the turn served
    pub words_are : s.words ≡ ((served + length queue) % 2 ^ 64) ∷ (served % 2 ^ 64) ∷ []
    pub homes_are : s.homes ≡ home ∷ []
    pub lies : ValueRule present world queue s.views home
    pub queued : (i id : ℕ) → get_elem? queue i ≡ some id → (v : View E G) × (get_elem? s.views id ≡ some v) × (ticket v.stage ≡ some (served + i))
    pub knows : (id : ℕ) (v : View E G) → get_elem? s.views id ≡ some v → StageRule served queue present home id v.stage
    pub fits : (id : ℕ) (v : View E G) → get_elem? s.views id ≡ some v → IsLive v.stage → SeatRule present world all boss id v
    -- no two seats answer for one number, and no seat took its own number in
    pub apart : (id : ℕ) (v : View E G) → get_elem? s.views id ≡ some v → IsLive v.stage → (j : ℕ) (w : View E G) → get_elem? s.views j ≡ some w → IsLive w.stage → AnswersFor w v.number → id ≡ j
    pub once : (id : ℕ) (v : View E G) → get_elem? s.views id ≡ some v → IsLive v.stage → (es : List E) → ¬ In (v.number, es) v.joined
    -- no entry has a number that was not given
    pub foreign : (k : ℕ) → ¬ In k all → entries_by client k present ≡ []
    -- so fewer than 2 ^ 64 seats wait, and two of them never share a turn
    pub small : (k : ℕ) → In k all → k < 2 ^ 32
