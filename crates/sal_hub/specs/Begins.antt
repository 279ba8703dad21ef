-- The entries that begin transactions, and their replies.
use Rattle.std.specs.Prelude.{◌≡◌, ◌≢◌, ℕ, ◌<◌, List, Option, None, Some, option_and_then, slice_get}
use Rattle.sal_rows.specs.declared.outcome.Mode.{Mode}
use Rattle.sal_rows.specs.declared.outcome.Mode.TheVariants.{Ro}
use Rattle.sal_history.specs.declared.call.Call.{Call}
use Rattle.sal_history.specs.declared.call.Call.TheVariants.{Begin, ChainBegin, Submit}
use Rattle.sal_history.specs.declared.reply.Reply.{Reply}
use Rattle.sal_history.specs.declared.reply.Reply.TheVariants.{Begun}
use Rattle.sal_history.specs.History.{Answered, began_at}
use Rattle.sal_history.specs.Submissions.{Sent}

-- the mode of a call
abbrev pub mode_by : Call → Option Mode
mode_by (Begin domain mode) = Some mode
mode_by (ChainBegin chain mode) = Some mode
mode_by call = None

-- the pending receipt, if any, that the transaction of a reply follows
abbrev pub on_by : Reply → Option (Option ℕ)
on_by (Begun commit on) = Some on
on_by reply = None

-- the mode of the entry at the index
abbrev pub mode_at : List Answered → ℕ → Option Mode
mode_at answered place = option_and_then (λ a. mode_by a.entry.call) (slice_get answered place)

-- the pending receipt, if any, that the transaction that the entry at the index began follows
abbrev pub on_at : List Answered → ℕ → Option (Option ℕ)
on_at answered place = option_and_then (λ a. on_by a.reply) (slice_get answered place)

-- the index of the entry that began the transaction, as a call that submits it names it
abbrev pub place_by : Call → Option ℕ
place_by (Submit place ops) = Some place
place_by call = None

-- The call after this many entries submits the transaction that the entry at an index before it began in a mode that writes; the submission has
-- the base of that transaction.
pub record IsOfWriter (answered : List Answered) (k : ℕ) (call : Call) (t : Sent) : Type 0 where
  pub place : ℕ
  pub mode : Mode
  pub named : place_by call ≡ Some place
  pub earlier : place < k
  pub asked : mode_at answered place ≡ Some mode
  pub writes : mode ≢ Ro
  pub began : began_at answered place ≡ Some t.base

-- so does each entry that submits
abbrev pub AreOfWriters : List Answered → Type 0
AreOfWriters answered = (k : ℕ) (a : Answered) (t : Sent) → slice_get answered k ≡ Some a → a.sent ≡ Some t → IsOfWriter answered k a.entry.call t
