-- The effect of a shared call: one more entry with the reply by the log, or, if the history is full or memory ran
-- out, no change.
use Rattle.std.specs.Prelude.{◌≡◌, ℕ, ◌<◌, ◌≤◌, length, Result, MatchResult}
use Rattle.sal_rows.specs.declared.outcome.CallFault.{CallFault}
use Rattle.sal_rows.specs.declared.outcome.CallFault.TheVariants.{HistoryFull, NoMemory}
use Rattle.sal_history.specs.declared.call.Call.{Call}
use Rattle.sal_history.specs.declared.call.Entry.{Entry}
use Rattle.sal_history.specs.declared.reply.Reply.{Reply}
use Rattle.sal_history.specs.declared.reply.Reply.TheVariants.{Refused}
use Rattle.sal_history.specs.History.{reply}
use Rattle.sal_hub.specs.declared.pipeline.Pipeline.{Pipeline}
use Rattle.sal_hub.specs.Current.{known_of}
use Rattle.sal_hub.specs.HubHistory.{HubHistory, entry_of, more}
use Rattle.sal_hub.specs.Journals.{Noted}

-- the largest number of entries of a log
abbrev pub limit : ℕ
limit = 1000000

-- the call was made: the log has its entry, and the reply is the one by the log
pub record Made (old new : HubHistory) (e : Entry) (answer : Reply) : Type 0 where
  pub room : length old.log < limit
  pub log : new ≡ more old e
  pub reply : reply old.world old.log e ≡ answer

-- a fault of a call
abbrev pub Fails : HubHistory → HubHistory → Entry → CallFault → Type 0
Fails old new e HistoryFull = (limit ≤ length old.log) × (new ≡ old)
Fails old new e NoMemory = new ≡ old
Fails old new e fault = Made old new e (Refused fault)

-- a call that returns its result, or a fault
abbrev pub Calls : {X : Type 0} → HubHistory → HubHistory → Entry → (X → Reply) → Result X CallFault → Type 0
Calls old new e good result = MatchResult result (λ x. Made old new e (good x)) (Fails old new e)

-- the same if a fault returns another value too
abbrev pub CallsOr : {X Y : Type 0} → HubHistory → HubHistory → Entry → (X → Reply) → Y → Result X (Y × CallFault) → Type 0
CallsOr old new e good given result = MatchResult result (λ x. Made old new e (good x)) (λ back. (back.0 ≡ given) × Fails old new e back.1)

-- a client's call, as the journal has it, over a pipeline that it does not change
abbrev pub CallsOver : {X : Type 0} → Pipeline → Noted → Noted → ℕ → Call → (X → Reply) → Result X CallFault → Type 0
CallsOver p old new client call good result = Calls (known_of old p) (known_of new p) (entry_of (known_of old p) client call) good result
