-- Each example by computation.
use Rattle.sal_restrict.specs.declared.yang_type.YangType.TheViews.{out-roll-YangType}
use Rattle.sal_schema.specs.Table.{closest}
use Rattle.sal_schema.specs.Valid.{is_good_type}
use Rattle.examples_worked.proofs.tables.tables_with_wrong_types.Goals as goal

pub returns-clause-types : goal.returns-clause-types
unfolding closest
returns-clause-types c = simp (is_good_type, out-roll-YangType)
