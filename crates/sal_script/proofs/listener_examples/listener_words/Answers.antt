-- The words are computed.
use Rattle.std.specs.Fmt.{digits}
use Rattle.std.specs.Str.{chars}
use Rattle.std.proofs.Common.{refl}
use Rattle.json.specs.Print.{escape_byte}
use Rattle.sal_restrict.specs.declared.yang_type.YangType.TheViews.{out-roll-YangType}
use Rattle.sal_json.specs.Written.{type_json_of, layer_for}
use Rattle.sal_data.specs.Written.{scalar_json, node_json, runs_of}
use Rattle.sal_script.proofs.listener_examples.listener_words.Goals as goal

pub returns : goal.returns
unfolding digits chars escape_byte scalar_json node_json runs_of
returns c = record { opened = simp (type_json_of, layer_for, out-roll-YangType); root = refl; batch = simp (type_json_of, layer_for, out-roll-YangType); mirror = refl; mark = refl; no_listener = refl; too_many = refl; no_device = refl }
