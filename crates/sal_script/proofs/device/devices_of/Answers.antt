use Rattle.std.proofs.Common.{sym, ◌∙◌}
use Rattle.sal_script.specs.Reading.{devices}
use Rattle.sal_script.proofs.Each.{each_done}
use Rattle.sal_script.proofs.JsonRead.{one_json}
use Rattle.sal_script.proofs.Readers.{device_at, devices_from-each, each_fault, reads_err}
use Rattle.sal_script.proofs.device.devices_of.Goals as goal

pub device_at-requires : goal.device_at-requires
device_at-requires c = one_json c.args.list.now c.loop-number.number c.index-list-number.result c.loop-number-test.true c.index-list-number.is c.requires

pub returns-in_err-device : goal.returns-in_err-device
returns-in_err-device c =
    let l = c.loop-number in
    let e = c.in_err-device.field-0.0 in
    let total = devices_from-each 0 c.args.list.now in
    reads_err _ _ e _ c.from_residual.ensures.1
    (each_fault device_at (devices l.devices.items) l.number c.args.list.now _ c.index-list-number.result e c.loop-number-test.true c.index-list-number.is c.in_err-device.ensures (l.invariant ∙ sym total))

pub returns : goal.returns
returns c =
    let l = c.loop-number in
    devices_from-each 0 c.args.list.now ∙ each_done device_at (devices l.devices.items) l.number c.args.list.now _ c.loop-number-test.false l.invariant
