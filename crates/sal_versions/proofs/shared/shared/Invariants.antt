-- The older versions so far.
use Rattle.std.proofs.Common.{◌≡◌}
use Rattle.sal_versions.specs.Shared.{tables_in}
use Rattle.sal_versions.proofs.shared.shared.Given as goal

abbrev pub invariant-loop-old : goal.invariant-loop-old
invariant-loop-old l = tables_in l.schemas.items ≡ l.yielded
