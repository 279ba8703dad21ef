-- What each step of the lock does to the seat that makes it: from its knowledge and the word found to its new knowledge.
use Rattle.std.specs.Prelude.{◌≡◌, ◌≢◌, ℕ, ◌+◌, ◌%◌, ◌^◌, List, [], ◌∷◌, Option, Some, None}
use mathlib.Core.List.{IsPrefix}
use Rattle.atomic_table.specs.Table.{Me, Step}
use Rattle.sal_turn.specs.Entries.{entries_by}
use Rattle.sal_turn.specs.Stages.{entries_found}
use Rattle.sal_turn.specs.Views.{at_stage}
use Rattle.sal_turn.specs.declared.view.View.{View}
use Rattle.sal_turn.specs.declared.view.Stage.TheVariants.{Idle, Names, Waits, HasTurn, Compares}

module _ {V E G : Type 0} (entries : V → List E) (client : E → ℕ) (ground : V → G) where
  -- the seat: its view, and the slots that it has
  abbrev Seated : Type 0
  Seated = Me (Option V) (View E G)

  abbrev Call : Type 0
  Call = Step (Option V)

  -- draw: the seat has a ticket, whose low part is the word found
  abbrev pub DrawTells : Step (Option V) → Seated → ℕ → Seated → Type 0
  DrawTells step m word m' = (t : ℕ) × (t % 2 ^ 64 ≡ word) × (m' ≡ (at_stage (Waits t) m.0, m.1))

  -- the value's entries begin with those that the seat has seen, its ground is the seat's, and the entries of the seat's number are its own
  abbrev pub FitsSeat : V → View E G → Type 0
  FitsSeat x v = IsPrefix v.seen (entries x) × (v.ground ≡ Some (ground x)) × (entries_by client v.number (entries x) ≡ v.own)

  -- look: if the word is the low part of its ticket, the seat has the value; else nothing changed
  abbrev pub LookTells : Step (Option V) → Seated → ℕ → Seated → Type 0
  LookTells step m word m' = (t : ℕ) × (m.0.stage ≡ Waits t)
      × (word ≡ t % 2 ^ 64 → (x : V) × (m' ≡ (at_stage (HasTurn t (entries x)) m.0, (0, Some x) ∷ m.1)) × FitsSeat x m.0)
      × (word ≢ t % 2 ^ 64 → m' ≡ m)

  -- a seat after a turn that left this value
  abbrev pub after_turn : V → View E G → View E G
  after_turn x v = record v { stage = Idle; seen = entries x; own = entries_by client v.number (entries x); turns = v.turns + 1 }

  -- pass: the value that the seat had is in the slot again
  abbrev pub PassTells : Step (Option V) → Seated → ℕ → Seated → Type 0
  PassTells step m word m' = (x : V) × (m.1 ≡ (0, Some x) ∷ []) × (m' ≡ (after_turn x m.0, []))

  -- name: the seat is about to give away the number that was put in
  abbrev pub NameTells : Step (Option V) → Seated → ℕ → Seated → Type 0
  NameTells step m word m' = m' ≡ (at_stage (Names step.first) m.0, m.1)

  -- compare: of the lists seen of the two joined seats, the shorter is a prefix of the longer
  abbrev pub CompareTells : Step (Option V) → Seated → ℕ → Seated → Type 0
  CompareTells step m word m' = (l : List E) × (m.0.stage ≡ Compares l) × (m' ≡ (at_stage Idle m.0, m.1)) × IsPrefix l m.0.seen

  -- a turn has begun: the view u of the seat before, the seat with the slot emptied, and the value y
  pub record Begun (u : View E G) (m : Seated) (y : V) : Type 0 where
    pub carries : m.1 ≡ (0, None) ∷ []
    pub staged : (t : ℕ) × (m.0.stage ≡ HasTurn t (entries_found m.0.stage))
    pub found : entries y ≡ entries_found m.0.stage
    pub same : at_stage Idle m.0 ≡ u
    pub seen : IsPrefix u.seen (entries_found m.0.stage)
    pub own : entries_by client u.number (entries_found m.0.stage) ≡ u.own
    pub mine : entries_by client m.0.number (entries_found m.0.stage) ≡ m.0.own
    pub grounded : u.ground ≡ Some (ground y)
