-- Each example by computation.
use Rattle.std.specs.Fmt.{digits}
use Rattle.std.specs.Str.{chars}
use Rattle.sal_restrict.specs.declared.yang_type.YangType.TheViews.{out-roll-YangType}
use Rattle.sal_schema.specs.Table.{closest}
use Rattle.sal_json.specs.Read.{type_scalar, own_json}
use Rattle.sal_data.proofs.examples.trees_read.Goals as goal

pub returns-clause-whole : goal.returns-clause-whole
unfolding digits chars closest
returns-clause-whole c = simp (type_scalar, own_json, out-roll-YangType)

pub returns-clause-other_order : goal.returns-clause-other_order
unfolding digits chars closest
returns-clause-other_order c = simp (type_scalar, own_json, out-roll-YangType)

pub returns-clause-entry : goal.returns-clause-entry
unfolding digits chars closest
returns-clause-entry c = simp (type_scalar, own_json, out-roll-YangType)

pub returns-clause-number_first : goal.returns-clause-number_first
unfolding digits chars closest
returns-clause-number_first c = simp (type_scalar, own_json, out-roll-YangType)
