-- Each example by computation.
use Rattle.std.specs.Fmt.{digits}
use Rattle.std.specs.Str.{chars}
use Rattle.sal_restrict.specs.declared.yang_type.YangType.TheViews.{out-roll-YangType}
use Rattle.sal_schema.specs.Table.{closest}
use Rattle.sal_json.specs.Read.{type_scalar, own_json}
use Rattle.sal_data.proofs.examples.faults_of_values.Goals as goal

pub returns-clause-object_in_leaf : goal.returns-clause-object_in_leaf
unfolding digits chars closest
returns-clause-object_in_leaf c = simp (type_scalar, own_json, out-roll-YangType)
