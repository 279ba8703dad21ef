-- Each example by computation.
use Rattle.std.specs.Fmt.{digits}
use Rattle.std.specs.Str.{chars}
use Rattle.sal_restrict.specs.declared.yang_type.YangType.TheViews.{out-roll-YangType}
use Rattle.sal_schema.specs.Table.{closest}
use Rattle.sal_json.specs.Written.{type_text_of, layer_for}
use Rattle.sal_pathtext.proofs.examples.texts.Goals as goal

pub returns-clause-of_another_module : goal.returns-clause-of_another_module
unfolding closest digits chars
returns-clause-of_another_module c = simp (type_text_of, layer_for, out-roll-YangType)

pub returns-clause-by_key_order : goal.returns-clause-by_key_order
unfolding closest digits chars
returns-clause-by_key_order c = simp (type_text_of, layer_for, out-roll-YangType)

pub returns-clause-leaf_list_entry : goal.returns-clause-leaf_list_entry
unfolding closest digits chars
returns-clause-leaf_list_entry c = simp (type_text_of, layer_for, out-roll-YangType)

pub returns-clause-other_quotes : goal.returns-clause-other_quotes
unfolding closest digits chars
returns-clause-other_quotes c = simp (type_text_of, layer_for, out-roll-YangType)

pub returns-clause-both_quotes : goal.returns-clause-both_quotes
unfolding closest digits chars
returns-clause-both_quotes c = simp (type_text_of, layer_for, out-roll-YangType)
