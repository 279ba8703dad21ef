-- The replies that follow from the entries of a log and the outcomes of its submissions, without data.
use Rattle.std.specs.Prelude.{◌≡◌, Bool, true, false, List, if◌then◌else◌, map}
use Rattle.sal_history.specs.declared.call.Call.{Call}
use Rattle.sal_history.specs.declared.call.Call.TheVariants.{Begin, OpenChain, ChainBegin, CloseChain, Submit, Cancel, Settle, Pump, Mount, Unmount, MountAt, Mark, After}
use Rattle.sal_history.specs.declared.reply.Reply.{Reply}
use Rattle.sal_history.specs.declared.reply.Reply.TheVariants.{Nothing}
use Rattle.sal_history.specs.Answered.{Answered}
use Rattle.sal_history.specs.History.{sents}
use Rattle.sal_retell.specs.declared.retold.Retold.{Retold}
use Rattle.sal_retell.specs.Light.{sent_on}

-- The calls with such replies. Those of listeners, of RPCs and notifications, and of upgrades have none: the changes of a batch, which client gets
-- a request, and whether the call was refused need data.
abbrev pub is_told : Call → Bool
is_told (Begin domain mode) = true
is_told (OpenChain domain) = true
is_told (ChainBegin chain mode) = true
is_told (CloseChain chain) = true
is_told (Submit place ops) = true
is_told (Cancel place) = true
is_told (Settle receipt) = true
is_told Pump = true
is_told (Mount path device) = true
is_told (Unmount domain) = true
is_told (MountAt path) = true
is_told (Mark mark) = true
is_told (After mark) = true
is_told call = false

-- the reply to a call, or `Nothing` for the others
abbrev pub told : Call → Reply → Reply
told call reply = if is_told call then reply else Nothing

abbrev pub told_in : Answered → Reply
told_in a = told a.entry.call a.reply

-- the replies of a log, and the base of each submission without its trees
pub record IsRetold (answered : List Answered) (r : Retold) : Type 0 where
  pub replies : r.replies.items ≡ map told_in answered
  pub sent : r.sent.items ≡ map sent_on (sents answered)
