-- The last version of domain 0, and then the devices so far.
use Rattle.std.proofs.Common.{◌≡◌, ◌∷◌, take}
use Rattle.sal_script.specs.Tables.{last_among}
use Rattle.sal_prepare.specs.Scripted.{tables_in}
use Rattle.sal_prepare.proofs.domains.last_schemas.Given as goal

abbrev pub invariant-loop-device : goal.invariant-loop-device
invariant-loop-device l = tables_in l.last.items ≡ last_among (tables_in l.schemas.own.items) ∷ tables_in (take l.device-index l.schemas.devices.items)
