-- The domains so far, and then the others.
use Rattle.std.proofs.Common.{◌≡◌, drop}
use Rattle.sal_hub.specs.Openings.{world_of}
use Rattle.sal_script.specs.Reading.{parts}
use Rattle.sal_prepare.specs.Each.{each_from}
use Rattle.sal_prepare.specs.Scripted.{domains_of, opening_by}
use Rattle.sal_prepare.proofs.Each.{before}
use Rattle.sal_prepare.proofs.resumed.add_others.Given as goal

abbrev pub invariant-loop-number : goal.invariant-loop-number
invariant-loop-number l =
    before (world_of l.script.rules l.devices.items) (each_from (opening_by l.script.rules l.readers) l.number (drop l.number (domains_of (parts l.script))))
    ≡ before (world_of l.script.rules l.initial.devices.items) (each_from (opening_by l.script.rules l.readers) 1 (parts l.script).devices)
