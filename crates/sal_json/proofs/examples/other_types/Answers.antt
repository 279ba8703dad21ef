-- Each example by computation.
use Rattle.std.specs.Fmt.{digits}
use Rattle.std.specs.Str.{chars}
use Rattle.base64.proofs.OnLiterals.{base64_on_literals}
use Rattle.sal_restrict.specs.declared.yang_type.YangType.TheViews.{out-roll-YangType}
use Rattle.sal_json.specs.Named.{bits_of}
use Rattle.sal_json.specs.Read.{type_scalar, type_text_scalar, own_text, own_json}
use Rattle.sal_json.specs.Written.{type_json_of, type_text_of, layer_for}
use Rattle.sal_json.proofs.examples.other_types.Goals as goal

pub returns-clause-binary : goal.returns-clause-binary
unfolding digits chars base64_on_literals bits_of
returns-clause-binary c = simp (type_scalar, type_text_scalar, own_text, own_json, type_json_of, type_text_of, layer_for, out-roll-YangType)

pub returns-clause-unpadded : goal.returns-clause-unpadded
unfolding digits chars base64_on_literals bits_of
returns-clause-unpadded c = simp (type_scalar, type_text_scalar, own_text, own_json, type_json_of, type_text_of, layer_for, out-roll-YangType)

pub returns-clause-no_empty : goal.returns-clause-no_empty
unfolding digits chars base64_on_literals bits_of
returns-clause-no_empty c = simp (type_scalar, type_text_scalar, own_text, own_json, type_json_of, type_text_of, layer_for, out-roll-YangType)

pub returns-clause-empty : goal.returns-clause-empty
unfolding digits chars base64_on_literals bits_of
returns-clause-empty c = simp (type_scalar, type_text_scalar, own_text, own_json, type_json_of, type_text_of, layer_for, out-roll-YangType)

pub returns-clause-number_first : goal.returns-clause-number_first
unfolding digits chars base64_on_literals bits_of
returns-clause-number_first c = simp (type_scalar, type_text_scalar, own_text, own_json, type_json_of, type_text_of, layer_for, out-roll-YangType)

pub returns-clause-text_second : goal.returns-clause-text_second
unfolding digits chars base64_on_literals bits_of
returns-clause-text_second c = simp (type_scalar, type_text_scalar, own_text, own_json, type_json_of, type_text_of, layer_for, out-roll-YangType)

pub returns-clause-other_form : goal.returns-clause-other_form
unfolding digits chars base64_on_literals bits_of
returns-clause-other_form c = simp (type_scalar, type_text_scalar, own_text, own_json, type_json_of, type_text_of, layer_for, out-roll-YangType)

pub returns-clause-enum_place : goal.returns-clause-enum_place
unfolding digits chars base64_on_literals bits_of
returns-clause-enum_place c = simp (type_scalar, type_text_scalar, own_text, own_json, type_json_of, type_text_of, layer_for, out-roll-YangType)

pub returns-clause-no_enum : goal.returns-clause-no_enum
unfolding digits chars base64_on_literals bits_of
returns-clause-no_enum c = simp (type_scalar, type_text_scalar, own_text, own_json, type_json_of, type_text_of, layer_for, out-roll-YangType)

pub returns-clause-bits : goal.returns-clause-bits
unfolding digits chars base64_on_literals bits_of
returns-clause-bits c = simp (type_scalar, type_text_scalar, own_text, own_json, type_json_of, type_text_of, layer_for, out-roll-YangType)

pub returns-clause-bits_written : goal.returns-clause-bits_written
unfolding digits chars base64_on_literals bits_of
returns-clause-bits_written c = simp (type_scalar, type_text_scalar, own_text, own_json, type_json_of, type_text_of, layer_for, out-roll-YangType)

pub returns-clause-bit_twice : goal.returns-clause-bit_twice
unfolding digits chars base64_on_literals bits_of
returns-clause-bit_twice c = simp (type_scalar, type_text_scalar, own_text, own_json, type_json_of, type_text_of, layer_for, out-roll-YangType)

pub returns-clause-own_identity : goal.returns-clause-own_identity
unfolding digits chars base64_on_literals bits_of
returns-clause-own_identity c = simp (type_scalar, type_text_scalar, own_text, own_json, type_json_of, type_text_of, layer_for, out-roll-YangType)

pub returns-clause-own_written : goal.returns-clause-own_written
unfolding digits chars base64_on_literals bits_of
returns-clause-own_written c = simp (type_scalar, type_text_scalar, own_text, own_json, type_json_of, type_text_of, layer_for, out-roll-YangType)

pub returns-clause-other_identity : goal.returns-clause-other_identity
unfolding digits chars base64_on_literals bits_of
returns-clause-other_identity c = simp (type_scalar, type_text_scalar, own_text, own_json, type_json_of, type_text_of, layer_for, out-roll-YangType)

pub returns-clause-other_written : goal.returns-clause-other_written
unfolding digits chars base64_on_literals bits_of
returns-clause-other_written c = simp (type_scalar, type_text_scalar, own_text, own_json, type_json_of, type_text_of, layer_for, out-roll-YangType)

pub returns-clause-base_itself : goal.returns-clause-base_itself
unfolding digits chars base64_on_literals bits_of
returns-clause-base_itself c = simp (type_scalar, type_text_scalar, own_text, own_json, type_json_of, type_text_of, layer_for, out-roll-YangType)

pub returns-clause-length_first : goal.returns-clause-length_first
unfolding digits chars base64_on_literals bits_of
returns-clause-length_first c = simp (type_scalar, type_text_scalar, own_text, own_json, type_json_of, type_text_of, layer_for, out-roll-YangType)
