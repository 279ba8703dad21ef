-- The values of the statements so far.
use Rattle.std.proofs.Common.{◌≡◌, take}
use Rattle.sal_module_table.specs.Typed.{owns, places_of}
use Rattle.sal_module_table.proofs.typed.own_places.Given as goal

abbrev pub invariant-loop-own : goal.invariant-loop-own
invariant-loop-own l = l.places.items ≡ places_of (owns (take l.own-index l.all))
