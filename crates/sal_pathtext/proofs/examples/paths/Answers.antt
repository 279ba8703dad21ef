-- Each example by computation.
use Rattle.std.specs.Fmt.{digits}
use Rattle.std.specs.Str.{chars}
use Rattle.sal_restrict.specs.declared.yang_type.YangType.TheViews.{out-roll-YangType}
use Rattle.sal_schema.specs.Table.{closest}
use Rattle.sal_json.specs.Read.{type_text_scalar}
use Rattle.sal_pathtext.specs.Words.{name, single, said}
use Rattle.sal_pathtext.specs.Read.{read_path, steps, one_more, named, entered, predicates, predicate, subject}
use Rattle.sal_pathtext.proofs.examples.paths.Goals as goal

pub returns-clause-of_another_module : goal.returns-clause-of_another_module
unfolding read_path steps one_more named entered predicates predicate subject name single said closest digits chars
returns-clause-of_another_module c = simp (type_text_scalar, out-roll-YangType)

pub returns-clause-keys_in_order : goal.returns-clause-keys_in_order
unfolding read_path steps one_more named entered predicates predicate subject name single said closest digits chars
returns-clause-keys_in_order c = simp (type_text_scalar, out-roll-YangType)

pub returns-clause-keys_turned : goal.returns-clause-keys_turned
unfolding read_path steps one_more named entered predicates predicate subject name single said closest digits chars
returns-clause-keys_turned c = simp (type_text_scalar, out-roll-YangType)

pub returns-clause-leaf_list_entry : goal.returns-clause-leaf_list_entry
unfolding read_path steps one_more named entered predicates predicate subject name single said closest digits chars
returns-clause-leaf_list_entry c = simp (type_text_scalar, out-roll-YangType)

pub returns-clause-other_quotes : goal.returns-clause-other_quotes
unfolding read_path steps one_more named entered predicates predicate subject name single said closest digits chars
returns-clause-other_quotes c = simp (type_text_scalar, out-roll-YangType)

pub returns-clause-double_in_single : goal.returns-clause-double_in_single
unfolding read_path steps one_more named entered predicates predicate subject name single said closest digits chars
returns-clause-double_in_single c = simp (type_text_scalar, out-roll-YangType)

pub returns-clause-doubled_quote : goal.returns-clause-doubled_quote
unfolding read_path steps one_more named entered predicates predicate subject name single said closest digits chars
returns-clause-doubled_quote c = simp (type_text_scalar, out-roll-YangType)
