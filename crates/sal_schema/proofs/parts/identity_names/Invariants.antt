-- The names so far and those of what is left are all names.
use Rattle.std.proofs.Common.{◌≡◌, ◌++◌, drop}
use Rattle.sal_schema.specs.Names.{identity_at}
use Rattle.sal_schema.specs.Table.{each_from}
use Rattle.sal_schema.proofs.parts.identity_names.Given as goal

abbrev pub invariant-loop-i : goal.invariant-loop-i
invariant-loop-i l = l.list.items ++ each_from identity_at l.i (drop l.i l.identities) ≡ each_from identity_at 0 l.identities
