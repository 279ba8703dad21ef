-- The patterns of the types so far are appended, and none is malformed.
use Rattle.std.proofs.Common.{◌≡◌, ◌++◌, false, map, take}
use Rattle.std.specs.List.{list_any}
use Rattle.sal_json.specs.Patterns.{has_malformed, type_searched}
use Rattle.sal_json.proofs.patterns.add_types.Given as goal

abbrev pub invariant-loop-ty : goal.invariant-loop-ty
invariant-loop-ty l = (l.types.items ≡ l.initial.types.items ++ map type_searched (take l.ty l.schema.types)) × (list_any has_malformed (take l.ty l.schema.types) ≡ false)
