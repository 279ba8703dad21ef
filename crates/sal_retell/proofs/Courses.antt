-- The course of a log gives its answers.
use Rattle.std.proofs.Common.{◌≡◌, ℕ, List, [], length, ap, sym, ◌∙◌, subst}
use Rattle.sal_rows.specs.declared.outcome.Outcome.{Outcome}
use Rattle.sal_history.specs.declared.call.Entry.{Entry}
use Rattle.sal_history.specs.History.{history, outcomes}
use Rattle.sal_history.specs.World.{Domain}
use Rattle.sal_retell.specs.declared.retold.Course.{Course}
use Rattle.sal_retell.specs.declared.retold.Retold.{Retold}
use Rattle.sal_retell.specs.Light.{IsThrough, Light}
use Rattle.sal_retell.specs.Told.{IsRetold}
use Rattle.sal_retell.proofs.Retelling.{retold}

pub retold_by : (world : List Domain) (log : List Entry) (os : List Outcome) (domains : ℕ) (course : Course) (r : Retold) → length world ≡ domains → os ≡ outcomes (history world log) → IsThrough domains log os course
    → r.replies.items ≡ course.replies.items → r.sent.items ≡ course.front.sent.items → IsRetold (history world log) r
retold_by world log os domains course r count whole is same_replies same_sent =
    let law = retold world [] log os whole in
    let through : IsThrough (length world) log os course = subst (λ (n : ℕ). IsThrough n log os course) (sym count) is in record {
      replies = same_replies ∙ through.replies ∙ sym law.0;
      sent = same_sent ∙ through.sent ∙ sym (ap (λ (l : Light). l.sent) law.1);
    }
