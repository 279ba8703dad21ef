use Rattle.std.proofs.Common.{◌≡◌, drop}
use Rattle.sal_script.specs.Reading.{devices}
use Rattle.sal_script.proofs.Each.{each_from, before}
use Rattle.sal_script.proofs.Readers.{device_at}
use Rattle.sal_script.proofs.device.devices_of.Given as goal

abbrev pub invariant-loop-number : goal.invariant-loop-number
invariant-loop-number l = before (devices l.devices.items) (each_from device_at l.number (drop l.number l.list)) ≡ each_from device_at 0 l.list
