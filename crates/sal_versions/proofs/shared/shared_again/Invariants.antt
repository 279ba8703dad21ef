-- The schemas so far.
use Rattle.std.proofs.Common.{◌≡◌, take}
use Rattle.sal_versions.specs.Shared.{tables_in}
use Rattle.sal_versions.proofs.shared.shared_again.Given as goal

abbrev pub invariant-loop-schema : goal.invariant-loop-schema
invariant-loop-schema l = tables_in l.shared.items ≡ tables_in (take l.schema-index l.schemas)
