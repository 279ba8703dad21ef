-- What each client leaves is computed.
use Rattle.std.specs.Str.{chars}
use Rattle.sal_restrict.specs.declared.yang_type.YangType.TheViews.{out-roll-YangType}
use Rattle.sal_schema.specs.Table.{closest}
use Rattle.sal_json.specs.Read.{type_scalar, own_json}
use Rattle.sal_pathtext.specs.Words.{name, single, said}
use Rattle.sal_pathtext.specs.Read.{read_path, steps, one_more, named, entered, predicates, predicate, subject}
use Rattle.sal_rules.specs.Breaches.{first}
use Rattle.sal_rules.specs.Contexts.{through_plain, from_list}
use Rattle.sal_rules.specs.Rules.{is_there}
use Rattle.sal_script.proofs.along_examples.two_clients_cross.Goals as goal

pub returns : goal.returns
unfolding read_path steps one_more named entered predicates predicate subject name single said closest first through_plain from_list is_there chars
returns c = record { first = simp (type_scalar, own_json, out-roll-YangType); second = simp (type_scalar, own_json, out-roll-YangType) }
