-- What is read is computed.
use Rattle.std.specs.Fmt.{digits}
use Rattle.std.specs.Str.{chars}
use Rattle.sal_restrict.specs.declared.yang_type.YangType.TheViews.{out-roll-YangType}
use Rattle.sal_schema.specs.Table.{closest}
use Rattle.sal_json.specs.Read.{type_scalar, type_text_scalar, own_text, own_json}
use Rattle.sal_pathtext.specs.Words.{name, single, said}
use Rattle.sal_pathtext.specs.Read.{read_path, steps, one_more, named, entered, predicates, predicate, subject}
use Rattle.sal_script.proofs.load_examples.an_entry_is_read.Goals as goal

pub returns-clause-path : goal.returns-clause-path
unfolding read_path steps one_more named entered predicates predicate subject name single said closest digits chars
returns-clause-path c = simp (type_scalar, type_text_scalar, own_text, own_json, out-roll-YangType)

pub returns-clause-rows : goal.returns-clause-rows
unfolding closest digits chars
returns-clause-rows c = simp (type_scalar, type_text_scalar, own_text, own_json, out-roll-YangType)
