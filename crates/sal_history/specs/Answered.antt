-- An entry of the log with its results.
use Rattle.std.specs.Prelude.{List, Option}
use Rattle.sal_rows.specs.declared.outcome.Outcome.{Outcome}
use Rattle.sal_history.specs.declared.call.Entry.{Entry}
use Rattle.sal_history.specs.declared.reply.Reply.{Reply}
use Rattle.sal_history.specs.Submissions.{Base, Sent}

-- An entry with its reply, the transaction that it began, the submission that it made, and the outcomes of the receipts
-- that it decided, in order.
pub record Answered : Type 0 where
  pub entry : Entry
  pub reply : Reply
  pub began : Option Base
  pub sent : Option Sent
  pub decided : List Outcome
