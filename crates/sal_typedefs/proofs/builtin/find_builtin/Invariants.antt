-- The remaining elements to search.
use Rattle.std.proofs.Common.{◌≡◌, drop, map}
use Rattle.sal_typedefs.specs.Builtins.{builtin_among, name_view}
use Rattle.sal_typedefs.proofs.builtin.find_builtin.Given as goal

abbrev pub invariant-loop-one : goal.invariant-loop-one
invariant-loop-one l = builtin_among (map name_view l.names) l.name ≡ builtin_among (map name_view (drop l.one-index l.names)) l.name
