-- What is given is put behind the own domain.
use Rattle.std.proofs.Common.{Ok, ap, sym, ◌∙◌}
use Rattle.sal_script.specs.Reading.{parts}
use Rattle.sal_script.specs.Tables.{versions_in}
use Rattle.sal_hub.specs.Openings.{world_of}
use Rattle.sal_prepare.specs.Each.{each_from}
use Rattle.sal_prepare.specs.Resumed.{with_own}
use Rattle.sal_prepare.specs.Scripted.{domain_with, opening_by}
use Rattle.sal_prepare.proofs.Each.{comes_err}
use Rattle.sal_prepare.proofs.Replaced.{given_after, given_fault}
use Rattle.sal_prepare.proofs.resumed.devices_on.Goals as goal

pub returns-in_err-devices : goal.returns-in_err-devices
returns-in_err-devices c =
    let rules = c.args.script.now.rules in
    let tables = c.args.readers.now in
    let own = domain_with rules (versions_in tables 0) c.args.openings.own in
    let given = c.args.openings.devices.items in
    let others = each_from (opening_by rules tables) 1 (parts c.args.script.now).devices in
    let e = c.in_err-devices.field-0.0 in
    comes_err _ (with_own own given others) _ e c.from_residual.ensures.1 (given_fault own given others e c.in_err-devices.ensures)

pub returns : goal.returns
returns c =
    let rules = c.args.script.now.rules in
    let tables = c.args.readers.now in
    let own = domain_with rules (versions_in tables 0) c.args.openings.own in
    let given = c.args.openings.devices.items in
    let others = each_from (opening_by rules tables) 1 (parts c.args.script.now).devices in
    given_after own given others (world_of rules c.in_ok-devices.devices.items) c.in_ok-devices.ensures ∙ ap Ok (sym (c.put_openings.ensures rules))
