-- The devices of the next epoch have lawful versions, under any version rules.
use Rattle.sal_rows.specs.declared.clash.Rules.TheVariants.{Two}
use Rattle.tests_cases.proofs.checks.epochs.copied.Goals as goal

pub open-requires-clause-versions : goal.open-requires-clause-versions
open-requires-clause-versions c = c.in_ok-devices.ensures.versions Two
