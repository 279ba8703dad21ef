-- What a seat knows when the lock is opened, when it is split, and when two are joined.
use Rattle.std.specs.Prelude.{◌≡◌, ◌⊎◌, ℕ, ◌||◌, true, false, cond, List, [], ◌∷◌, ◌++◌, Some, None}
use Rattle.sal_turn.specs.Lists.{In, longer, shorter}
use Rattle.sal_turn.specs.Stages.{number_named}
use Rattle.sal_turn.specs.declared.view.View.{View}
use Rattle.sal_turn.specs.declared.view.Stage.{Stage}
use Rattle.sal_turn.specs.declared.view.Stage.TheVariants.{Spent, Idle, Compares}

module _ {E G : Type 0} where
  abbrev pub at_stage : Stage E → View E G → View E G
  at_stage stage v = record v { stage = stage }

  -- the opening seat: its number is k, the first number given, and its ground is g
  abbrev pub opener : (number : ℕ) (ground : G) → View E G
  opener k g = record { stage = Idle; number = k; ground = Some g; seen = []; own = []; turns = 0; splits = true; given = k ∷ []; joined = [] }

  -- a seat that another took in
  abbrev pub spent : View E G
  spent = record { stage = Spent; number = 0; ground = None; seen = []; own = []; turns = 0; splits = false; given = []; joined = [] }

  -- a seat that has given away the number that it named
  abbrev pub giver : View E G → View E G
  giver v = record v { stage = Idle; given = v.given ++ number_named v.stage ∷ [] }

  -- the new seat with the number k: it has seen as much as its giver, and has no own entries
  abbrev pub newcomer : ℕ → View E G → View E G
  newcomer k v = record { stage = Idle; number = k; ground = v.ground; seen = v.seen; own = []; turns = 0; splits = false; given = []; joined = [] }

  -- the first seat with all that the second knew; it may split if either could
  abbrev pub both : View E G → View E G → View E G
  both v w = record v { stage = Idle; seen = longer v.seen w.seen; splits = v.splits || w.splits; given = cond v.splits v.given w.given; joined = v.joined ++ ((w.number, w.own) ∷ w.joined) }

  -- the same, before the two lists seen were compared
  abbrev pub comparing : View E G → View E G → View E G
  comparing v w = at_stage (Compares (shorter v.seen w.seen)) (both v w)

  -- the numbers that a seat answers for: its own, and those of the seats that it took in
  abbrev pub AnswersFor : View E G → ℕ → Type 0
  AnswersFor v k = (v.number ≡ k) ⊎ ((es : List E) × In (k, es) v.joined)

  -- what no turn changes: the number, the ground, the right to split with the numbers given, and the seats joined
  abbrev pub SameRights : View E G → View E G → Type 0
  SameRights v w = (w.number ≡ v.number) × (w.ground ≡ v.ground) × (w.splits ≡ v.splits) × (w.given ≡ v.given) × (w.joined ≡ v.joined)
