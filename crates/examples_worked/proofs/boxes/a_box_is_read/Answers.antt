-- Each example by computation.
use Rattle.std.specs.Fmt.{digits}
use Rattle.std.specs.Str.{chars}
use Rattle.base64.proofs.OnLiterals.{base64_on_literals}
use Rattle.sal_restrict.specs.declared.yang_type.YangType.TheViews.{out-roll-YangType}
use Rattle.sal_schema.specs.Table.{closest}
use Rattle.sal_json.specs.Named.{bits_of}
use Rattle.sal_json.specs.Read.{type_scalar, type_text_scalar, own_text, own_json}
use Rattle.sal_json.specs.Written.{type_json_of, type_text_of, layer_for}
use Rattle.examples_worked.proofs.boxes.a_box_is_read.Goals as goal

pub returns : goal.returns
unfolding closest digits chars base64_on_literals bits_of
returns c = record {
  whole = simp (type_scalar, type_text_scalar, own_text, own_json, type_json_of, type_text_of, layer_for, out-roll-YangType);
  texts = simp (type_scalar, type_text_scalar, own_text, own_json, type_json_of, type_text_of, layer_for, out-roll-YangType);
}
