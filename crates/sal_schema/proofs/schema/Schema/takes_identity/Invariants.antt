-- It is derived from all bases exactly if it is from the remaining ones.
use Rattle.std.proofs.Common.{◌≡◌, drop}
use Rattle.std.specs.List.{list_all}
use Rattle.sal_schema.specs.Table.{is_derived}
use Rattle.sal_schema.proofs.schema.Schema.takes_identity.Given as goal

abbrev pub invariant-loop-base : goal.invariant-loop-base
invariant-loop-base l = list_all (is_derived l.self l.identity) l.bases ≡ list_all (is_derived l.self l.identity) (drop l.base-index l.bases)
