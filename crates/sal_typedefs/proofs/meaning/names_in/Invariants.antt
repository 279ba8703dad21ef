-- The first names.
use Rattle.std.proofs.Common.{◌≡◌, take}
use Rattle.sal_typedefs.specs.Types.{names_in}
use Rattle.sal_typedefs.proofs.meaning.names_in.Given as goal

abbrev pub invariant-loop-entry : goal.invariant-loop-entry
invariant-loop-entry l = l.names.items ≡ names_in (take l.entry-index l.entries)
