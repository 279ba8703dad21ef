-- A submission.
use Rattle.std.specs.Prelude.{◌≡◌, ℕ, Bool, List, [], ◌∷◌, ◌++◌, Option, None, Some, IfSome, if◌then◌else◌, nat_lt}
use Rattle.sal_rows.specs.declared.outcome.CallFault.{CallFault}
use Rattle.sal_rows.specs.declared.outcome.CallFault.TheVariants.{PipelineFull, TxSpent}
use Rattle.sal_tree.specs.declared.commit.Pair.{Pair}
use Rattle.sal_tx.specs.declared.tx.Submission.{Submission}
use Rattle.sal_tx.specs.Views.{Shows, stamp_of}
use Rattle.sal_tx.specs.declared.writing.Writing.{Writing}

-- why a submit is refused with this many pending, of a transaction that is spent or not
abbrev pub refusal_of : ℕ → Bool → Option CallFault
refusal_of pending spent = if nat_lt pending 4096 then (if spent then Some TxSpent else None) else Some PipelineFull

-- the submission of a transaction, with its receipt, and its view if it was made
abbrev pub submission_of : Writing → ℕ → Option Pair → Submission
submission_of w receipt view =
    record { receipt = receipt; domain = w.begun.domain; chain = w.begun.chain; base_commit = w.begun.base_commit; base = w.base; view = view; stamp = stamp_of w.begun.place; changes = w.changes }

-- it is the last of the pending ones
abbrev pub IsAdded : Writing → ℕ → List Submission → List Submission → Type 0
IsAdded w receipt old new = (view : Option Pair) × IfSome view (Shows w.base w.changes) × (new ≡ old ++ submission_of w receipt view ∷ [])
