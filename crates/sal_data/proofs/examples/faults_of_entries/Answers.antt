-- Each example by computation.
use Rattle.std.specs.Fmt.{digits}
use Rattle.std.specs.Str.{chars}
use Rattle.sal_restrict.specs.declared.yang_type.YangType.TheViews.{out-roll-YangType}
use Rattle.sal_schema.specs.Table.{closest}
use Rattle.sal_json.specs.Read.{type_scalar, own_json}
use Rattle.sal_data.proofs.examples.faults_of_entries.Goals as goal

pub returns-clause-no_key : goal.returns-clause-no_key
unfolding digits chars closest
returns-clause-no_key c = simp (type_scalar, own_json, out-roll-YangType)

pub returns-clause-bad_key : goal.returns-clause-bad_key
unfolding digits chars closest
returns-clause-bad_key c = simp (type_scalar, own_json, out-roll-YangType)

pub returns-clause-another : goal.returns-clause-another
unfolding digits chars closest
returns-clause-another c = simp (type_scalar, own_json, out-roll-YangType)

pub returns-clause-twice : goal.returns-clause-twice
unfolding digits chars closest
returns-clause-twice c = simp (type_scalar, own_json, out-roll-YangType)

pub returns-clause-tag_twice : goal.returns-clause-tag_twice
unfolding digits chars closest
returns-clause-tag_twice c = simp (type_scalar, own_json, out-roll-YangType)

pub returns-clause-another_tag : goal.returns-clause-another_tag
unfolding digits chars closest
returns-clause-another_tag c = simp (type_scalar, own_json, out-roll-YangType)

pub returns-clause-keys_first : goal.returns-clause-keys_first
unfolding digits chars closest
returns-clause-keys_first c = simp (type_scalar, own_json, out-roll-YangType)
