-- The verdict is that by the order that the text states.
use Rattle.std.proofs.Common.{◌≡◌, subst}
use Rattle.std.specs.Prelude.{IfOk}
use Rattle.sal_verdict.specs.declared.verdict.Verdict.{Verdict}
use Rattle.sal_audit.proofs.Orders.{told-verdict, untold-verdict}
use Rattle.sal_audit.proofs.replayed.audit.Goals as goal

pub returns-then-told : goal.returns-then-told
returns-then-told c =
    subst (λ (v : Verdict). IfOk c.replay.result (λ verdict. verdict ≡ v))
    (told-verdict c.args.hub.world c.args.text.now c.args.read.script c.reorder.new.script c.in_ok-told.told c.if-told.true c.in_ok-told.ensures) c.replay.ensures

pub returns-else-told : goal.returns-else-told
returns-else-told c = untold-verdict c.args.hub.world c.args.text.now c.args.read.script c.reorder.new.script c.in_ok-told.told c.if-told.false c.in_ok-told.ensures
