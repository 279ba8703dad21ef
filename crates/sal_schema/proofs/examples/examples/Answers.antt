-- Each example by computation.
use Rattle.std.specs.Fmt.{digits}
use Rattle.std.specs.Str.{chars}
use Rattle.sal_restrict.specs.declared.yang_type.YangType.TheViews.{out-roll-YangType}
use Rattle.sal_schema.specs.Table.{closest}
use Rattle.sal_schema.proofs.examples.examples.Goals as goal

pub returns-clause-text : goal.returns-clause-text
unfolding closest digits chars
returns-clause-text c = simp out-roll-YangType

pub returns-clause-entry : goal.returns-clause-entry
unfolding closest digits chars
returns-clause-entry c = simp out-roll-YangType

pub returns-clause-long_key : goal.returns-clause-long_key
unfolding closest digits chars
returns-clause-long_key c = simp out-roll-YangType

pub returns-clause-message : goal.returns-clause-message
unfolding closest digits chars
returns-clause-message c = simp out-roll-YangType

pub returns-clause-past_its_range : goal.returns-clause-past_its_range
unfolding closest digits chars
returns-clause-past_its_range c = simp out-roll-YangType
