-- Each example by computation.
use Rattle.std.specs.Fmt.{digits}
use Rattle.std.specs.Str.{chars}
use Rattle.base64.proofs.OnLiterals.{base64_on_literals}
use Rattle.sal_restrict.specs.declared.yang_type.YangType.TheViews.{out-roll-YangType}
use Rattle.sal_json.specs.Named.{bits_of}
use Rattle.sal_json.specs.Read.{type_scalar, type_text_scalar, own_text, own_json}
use Rattle.sal_json.specs.Written.{type_json_of, type_text_of, layer_for}
use Rattle.examples_worked.proofs.values.members_are_kept.Goals as goal

pub returns : goal.returns
unfolding digits chars base64_on_literals bits_of
returns c = record {
  number_first = simp (type_scalar, type_text_scalar, own_text, own_json, type_json_of, type_text_of, layer_for, out-roll-YangType);
  number_second = simp (type_scalar, type_text_scalar, own_text, own_json, type_json_of, type_text_of, layer_for, out-roll-YangType);
  text_second = simp (type_scalar, type_text_scalar, own_text, own_json, type_json_of, type_text_of, layer_for, out-roll-YangType);
  text_first = simp (type_scalar, type_text_scalar, own_text, own_json, type_json_of, type_text_of, layer_for, out-roll-YangType);
}
