-- A late answer says that the mark is not there.
use Rattle.std.proofs.Common.{◌≡◌, ℕ, Bool, true, false, List, sym, ◌∙◌, refl}
use Rattle.std.specs.Prelude.{if◌then◌else◌}
use Rattle.sal_history.specs.World.{Domain}
use Rattle.sal_history.specs.declared.call.Call.TheVariants.{After}
use Rattle.sal_history.specs.declared.call.Entry.{Entry}
use Rattle.sal_history.specs.declared.reply.Reply.TheVariants.{Found as SaysFound, Late as SaysLate}
use Rattle.sal_history.specs.History.{history, is_marked, reply_to}
use Rattle.sal_hub.specs.Marks.{has_mark}
use Rattle.sal_hub.proofs.Histories.{marked}

late_not : (b : Bool) → (if b then SaysFound else SaysLate) ≡ SaysLate → b ≡ false
late_not true e = absurd (cc e)
late_not false e = refl

pub not_there : (world : List Domain) (log : List Entry) (client mark : ℕ) → reply_to world (history world log) client (After mark) ≡ SaysLate → has_mark log mark ≡ false
not_there world log client mark late = sym (marked world log mark) ∙ late_not (is_marked (history world log) mark) late
