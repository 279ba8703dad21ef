-- One history over epochs: each epoch has a log of its own, over a world that begins with the newest trees of the epoch before.
use Rattle.std.specs.Prelude.{◌≡◌, ℕ, List, [], ◌∷◌, map}
use Rattle.std.specs.List.{flat_map, fold}
use Rattle.sal_types.specs.declared.value.Store.{Store}
use Rattle.sal_types.specs.declared.row.Row.{Row}
use Rattle.sal_history.specs.declared.call.Entry.{Entry}
use Rattle.sal_history.specs.Answered.{Answered}
use Rattle.sal_history.specs.History.{history, newest_tree, outcomes, sents}
use Rattle.sal_history.specs.Submissions.{Sent, done}
use Rattle.sal_history.specs.World.{Domain, opening_of}
use Rattle.sal_history_laws.specs.Serial.{IsOfBegun, ReadsAlike, played}

-- the log of an epoch, with any upgrades, over its world
pub record Epoch : Type 0 where
  pub world : List Domain
  pub log : List Entry

-- the domain's opening trees in an epoch are its newest ones in the epoch before
abbrev pub Continues : ℕ → Epoch → Epoch → Type 0
Continues domain before next = (s : Store) → opening_of next.world domain s ≡ newest_tree before.world before.log domain s

-- each epoch continues the one before
abbrev pub AreEpochs : ℕ → Epoch → List Epoch → Type 0
AreEpochs domain e [] = Unit {0}
AreEpochs domain e (next ∷ es) = Continues domain e next × AreEpochs domain next es

abbrev pub last_epoch : Epoch → List Epoch → Epoch
last_epoch e [] = e
last_epoch e (next ∷ es) = last_epoch next es

-- a done transaction, with the history of its epoch
pub record Told : Type 0 where
  pub of : List Answered
  pub transaction : Sent

abbrev pub told_in : List Answered → Sent → Told
told_in answered t = record { of = answered; transaction = t }

-- those of a domain in an epoch, in the order of their commits, and those of all epochs
abbrev pub done_in : ℕ → Epoch → List Told
done_in domain e = map (told_in (history e.world e.log)) (done domain (sents (history e.world e.log)) (outcomes (history e.world e.log)))

abbrev pub done_over : ℕ → List Epoch → List Told
done_over domain es = flat_map (done_in domain) es

abbrev pub transactions : List Told → List Sent
transactions xs = map (λ x. x.transaction) xs

-- Applied one after another, the first to these trees, each transaction that an entry of its epoch began reads what it read in that epoch's log.
abbrev pub AreSerialOver : (Store → List Row) → List Told → Type 0
AreSerialOver trees [] = Unit {0}
AreSerialOver trees (x ∷ xs) = (IsOfBegun x.of x.transaction → ReadsAlike trees x.transaction) × AreSerialOver (played trees x.transaction) xs

-- The done transactions of a domain over all epochs are one serial history from the first opening on, as far as they recorded their reads, and leave
-- the newest trees of the last epoch.
abbrev pub EpochsAreOneHistory : Type 0
EpochsAreOneHistory =
    (domain : ℕ) (e : Epoch) (es : List Epoch) → AreEpochs domain e es
    → AreSerialOver (opening_of e.world domain) (done_over domain (e ∷ es))
    × ((s : Store) → newest_tree (last_epoch e es).world (last_epoch e es).log domain s ≡ fold played (opening_of e.world domain) (transactions (done_over domain (e ∷ es))) s)
