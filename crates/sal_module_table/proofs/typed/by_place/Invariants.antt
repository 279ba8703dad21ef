-- The places so far, from the last one.
use Rattle.std.proofs.Common.{◌≡◌}
use Rattle.std.specs.BTreeMap.{get}
use Rattle.sal_module_table.specs.declared.typed.Place.{Place}
use Rattle.sal_module_table.specs.Typed.{place_cmp, same_place}
use Rattle.sal_module_table.proofs.FromLast.{first_of_last}
use Rattle.sal_module_table.proofs.typed.by_place.Given as goal

abbrev pub invariant-loop-done : goal.invariant-loop-done
invariant-loop-done l = (q : Place) → get place_cmp l.map q ≡ first_of_last (same_place q) l.places l.done
