-- The names so far.
use Rattle.std.proofs.Common.{◌≡◌, map, take}
use Rattle.sal_typedefs.specs.Names.{name_in}
use Rattle.sal_typedefs.proofs.path.names_in.Given as goal

abbrev pub invariant-loop-step : goal.invariant-loop-step
invariant-loop-step l = l.names.items ≡ map name_in (take l.step-index l.steps)
