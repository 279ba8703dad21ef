-- There is such a device, or not.
use Rattle.std.proofs.Common.{◌<◌, Some, length, arith}
use Rattle.std.proofs.lemmas.List.{length-map}
use Rattle.sal_hub.specs.Openings.{domain_of, world_of}
use Rattle.sal_prepare.proofs.Replaced.{past_all, put_at}
use Rattle.sal_prepare.proofs.given.put.Goals as goal

pub returns-then-number-len : goal.returns-then-number-len
returns-then-number-len c =
    let devices = c.args.devices.now.items in
    let inside : c.args.number < length devices = omega (arith, c.if-number-len.true, c.len.ensures) in
    λ rules. put_at rules devices c.args.number c.index_mut-device.result.now c.args.opening inside c.index_mut-device.ensures.value

pub returns-else-number-len : goal.returns-else-number-len
returns-else-number-len c =
    let devices = c.args.devices.now.items in
    λ rules. past_all (world_of rules devices) c.args.number (Some c.args.opening) (omega (arith, c.if-number-len.false, c.len.ensures, length-map devices (domain_of rules)))
