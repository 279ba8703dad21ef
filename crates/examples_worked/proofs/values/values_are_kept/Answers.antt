-- Each example by computation.
use Rattle.std.specs.Fmt.{digits}
use Rattle.std.specs.Str.{chars}
use Rattle.base64.proofs.OnLiterals.{base64_on_literals}
use Rattle.sal_restrict.specs.declared.yang_type.YangType.TheViews.{out-roll-YangType}
use Rattle.sal_json.specs.Named.{bits_of}
use Rattle.sal_json.specs.Read.{type_scalar, type_text_scalar, own_text, own_json}
use Rattle.sal_json.specs.Written.{type_json_of, type_text_of, layer_for}
use Rattle.examples_worked.proofs.values.values_are_kept.Goals as goal

pub returns : goal.returns
unfolding digits chars base64_on_literals bits_of
returns c = record { int8 = simp (type_scalar, type_text_scalar, own_text, own_json, type_json_of, type_text_of, layer_for, out-roll-YangType); int16 = simp (type_scalar, type_text_scalar, own_text, own_json, type_json_of, type_text_of, layer_for, out-roll-YangType); int32 = simp (type_scalar, type_text_scalar, own_text, own_json, type_json_of, type_text_of, layer_for, out-roll-YangType); int64 = simp (type_scalar, type_text_scalar, own_text, own_json, type_json_of, type_text_of, layer_for, out-roll-YangType); uint8 = simp (type_scalar, type_text_scalar, own_text, own_json, type_json_of, type_text_of, layer_for, out-roll-YangType); uint16 = simp (type_scalar, type_text_scalar, own_text, own_json, type_json_of, type_text_of, layer_for, out-roll-YangType); uint32 = simp (type_scalar, type_text_scalar, own_text, own_json, type_json_of, type_text_of, layer_for, out-roll-YangType); uint64 = simp (type_scalar, type_text_scalar, own_text, own_json, type_json_of, type_text_of, layer_for, out-roll-YangType); decimal = simp (type_scalar, type_text_scalar, own_text, own_json, type_json_of, type_text_of, layer_for, out-roll-YangType); text = simp (type_scalar, type_text_scalar, own_text, own_json, type_json_of, type_text_of, layer_for, out-roll-YangType); flag = simp (type_scalar, type_text_scalar, own_text, own_json, type_json_of, type_text_of, layer_for, out-roll-YangType); state = simp (type_scalar, type_text_scalar, own_text, own_json, type_json_of, type_text_of, layer_for, out-roll-YangType); mask = simp (type_scalar, type_text_scalar, own_text, own_json, type_json_of, type_text_of, layer_for, out-roll-YangType); bytes = simp (type_scalar, type_text_scalar, own_text, own_json, type_json_of, type_text_of, layer_for, out-roll-YangType); identity = simp (type_scalar, type_text_scalar, own_text, own_json, type_json_of, type_text_of, layer_for, out-roll-YangType); none = simp (type_scalar, type_text_scalar, own_text, own_json, type_json_of, type_text_of, layer_for, out-roll-YangType) }
