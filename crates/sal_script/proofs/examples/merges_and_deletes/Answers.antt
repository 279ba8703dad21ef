-- The report is computed.
use Rattle.std.specs.Fmt.{digits}
use Rattle.std.specs.Str.{chars}
use Rattle.json.specs.Print.{escape_byte}
use Rattle.sal_restrict.specs.declared.yang_type.YangType.TheViews.{out-roll-YangType}
use Rattle.sal_schema.specs.Table.{closest}
use Rattle.sal_json.specs.Read.{type_scalar, own_json}
use Rattle.sal_json.specs.Written.{type_json_of, layer_for}
use Rattle.sal_pathtext.specs.Words.{name, single, said}
use Rattle.sal_pathtext.specs.Read.{read_path, steps, one_more, named, entered, predicates, predicate, subject}
use Rattle.sal_rules.specs.Breaches.{first}
use Rattle.sal_rules.specs.Contexts.{through_plain, from_list}
use Rattle.sal_rules.specs.Rules.{is_there}
use Rattle.sal_data.specs.Written.{scalar_json, node_json, runs_of}
use Rattle.sal_script.proofs.examples.merges_and_deletes.Goals as goal

pub returns : goal.returns
unfolding read_path steps one_more named entered predicates predicate subject name single said closest first through_plain from_list is_there digits chars escape_byte scalar_json node_json runs_of
returns c = record {
  merge = simp (type_scalar, own_json, type_json_of, layer_for, out-roll-YangType);
  delete = simp (type_scalar, own_json, type_json_of, layer_for, out-roll-YangType);
}
