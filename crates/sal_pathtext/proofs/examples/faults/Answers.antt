-- Each example by computation.
use Rattle.std.specs.Fmt.{digits}
use Rattle.std.specs.Str.{chars}
use Rattle.sal_restrict.specs.declared.yang_type.YangType.TheViews.{out-roll-YangType}
use Rattle.sal_schema.specs.Table.{closest}
use Rattle.sal_json.specs.Read.{type_text_scalar}
use Rattle.sal_pathtext.specs.Words.{name, single, said}
use Rattle.sal_pathtext.specs.Read.{read_path, steps, one_more, named, entered, predicates, predicate, subject}
use Rattle.sal_pathtext.proofs.examples.faults.Goals as goal

pub returns-clause-empty_key : goal.returns-clause-empty_key
unfolding read_path steps one_more named entered predicates predicate subject name single said closest digits chars
returns-clause-empty_key c = simp (type_text_scalar, out-roll-YangType)

pub returns-clause-missing_key : goal.returns-clause-missing_key
unfolding read_path steps one_more named entered predicates predicate subject name single said closest digits chars
returns-clause-missing_key c = simp (type_text_scalar, out-roll-YangType)

pub returns-clause-repeated_key : goal.returns-clause-repeated_key
unfolding read_path steps one_more named entered predicates predicate subject name single said closest digits chars
returns-clause-repeated_key c = simp (type_text_scalar, out-roll-YangType)

pub returns-clause-value_before_bracket : goal.returns-clause-value_before_bracket
unfolding read_path steps one_more named entered predicates predicate subject name single said closest digits chars
returns-clause-value_before_bracket c = simp (type_text_scalar, out-roll-YangType)
