-- Nothing is given, or it is put.
use Rattle.std.proofs.Common.{Option, ap, sym, ◌∙◌}
use Rattle.sal_history.specs.declared.opening.Opening.{Opening}
use Rattle.sal_hub.specs.Openings.{world_of}
use Rattle.sal_prepare.specs.Resumed.{with_opening_at}
use Rattle.sal_prepare.proofs.Replaced.{nothing_at}
use Rattle.sal_prepare.proofs.given.put_opening.Goals as goal

pub returns-in-None : goal.returns-in-None
returns-in-None c =
    let n = c.args.number in
    λ rules. let ds = world_of rules c.args.devices.now.items in nothing_at ds n ∙ ap (λ (o : Option Opening). with_opening_at ds n o) (sym c.in-None.is)
