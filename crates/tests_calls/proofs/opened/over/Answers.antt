-- The two devices are closed and have their versions.
use Rattle.sal_rows.specs.declared.clash.Rules.TheVariants.{One}
use Rattle.tests_calls.proofs.TwoDomains.{both_closed, two_versions}
use Rattle.tests_calls.proofs.opened.over.Goals as goal

pub open-requires-clause-closed : goal.open-requires-clause-closed
open-requires-clause-closed c = both_closed One c.args.schema.now c.requires.0 c.requires.1 c.requires.3 c.requires.4 c.args.devices.items c.requires.2

pub open-requires-clause-versions : goal.open-requires-clause-versions
open-requires-clause-versions c = two_versions One c.args.schema.now c.requires.0 c.requires.1 c.requires.3 c.requires.4 c.args.devices.items c.requires.2
