-- Each example by computation.
use Rattle.std.specs.Fmt.{digits}
use Rattle.std.specs.Str.{chars}
use Rattle.sal_restrict.specs.declared.yang_type.YangType.TheViews.{out-roll-YangType}
use Rattle.sal_json.specs.Read.{type_scalar, type_text_scalar, own_text, own_json}
use Rattle.sal_json.specs.Written.{type_json_of, type_text_of, layer_for}
use Rattle.sal_json.proofs.examples.numbers.Goals as goal

pub returns-clause-highest : goal.returns-clause-highest
unfolding digits chars
returns-clause-highest c = simp (type_scalar, type_text_scalar, own_text, own_json, type_json_of, type_text_of, layer_for, out-roll-YangType)

pub returns-clause-past : goal.returns-clause-past
unfolding digits chars
returns-clause-past c = simp (type_scalar, type_text_scalar, own_text, own_json, type_json_of, type_text_of, layer_for, out-roll-YangType)

pub returns-clause-of_text : goal.returns-clause-of_text
unfolding digits chars
returns-clause-of_text c = simp (type_scalar, type_text_scalar, own_text, own_json, type_json_of, type_text_of, layer_for, out-roll-YangType)

pub returns-clause-long : goal.returns-clause-long
unfolding digits chars
returns-clause-long c = simp (type_scalar, type_text_scalar, own_text, own_json, type_json_of, type_text_of, layer_for, out-roll-YangType)

pub returns-clause-long_written : goal.returns-clause-long_written
unfolding digits chars
returns-clause-long_written c = simp (type_scalar, type_text_scalar, own_text, own_json, type_json_of, type_text_of, layer_for, out-roll-YangType)

pub returns-clause-long_number : goal.returns-clause-long_number
unfolding digits chars
returns-clause-long_number c = simp (type_scalar, type_text_scalar, own_text, own_json, type_json_of, type_text_of, layer_for, out-roll-YangType)

pub returns-clause-minus_zero : goal.returns-clause-minus_zero
unfolding digits chars
returns-clause-minus_zero c = simp (type_scalar, type_text_scalar, own_text, own_json, type_json_of, type_text_of, layer_for, out-roll-YangType)

pub returns-clause-decimal : goal.returns-clause-decimal
unfolding digits chars
returns-clause-decimal c = simp (type_scalar, type_text_scalar, own_text, own_json, type_json_of, type_text_of, layer_for, out-roll-YangType)

pub returns-clause-decimal_written : goal.returns-clause-decimal_written
unfolding digits chars
returns-clause-decimal_written c = simp (type_scalar, type_text_scalar, own_text, own_json, type_json_of, type_text_of, layer_for, out-roll-YangType)

pub returns-clause-too_exact : goal.returns-clause-too_exact
unfolding digits chars
returns-clause-too_exact c = simp (type_scalar, type_text_scalar, own_text, own_json, type_json_of, type_text_of, layer_for, out-roll-YangType)

pub returns-clause-zero : goal.returns-clause-zero
unfolding digits chars
returns-clause-zero c = simp (type_scalar, type_text_scalar, own_text, own_json, type_json_of, type_text_of, layer_for, out-roll-YangType)

pub returns-clause-zero_written : goal.returns-clause-zero_written
unfolding digits chars
returns-clause-zero_written c = simp (type_scalar, type_text_scalar, own_text, own_json, type_json_of, type_text_of, layer_for, out-roll-YangType)

pub returns-clause-below_zero : goal.returns-clause-below_zero
unfolding digits chars
returns-clause-below_zero c = simp (type_scalar, type_text_scalar, own_text, own_json, type_json_of, type_text_of, layer_for, out-roll-YangType)

pub returns-clause-key : goal.returns-clause-key
unfolding digits chars
returns-clause-key c = simp (type_scalar, type_text_scalar, own_text, own_json, type_json_of, type_text_of, layer_for, out-roll-YangType)

pub returns-clause-long_key : goal.returns-clause-long_key
unfolding digits chars
returns-clause-long_key c = simp (type_scalar, type_text_scalar, own_text, own_json, type_json_of, type_text_of, layer_for, out-roll-YangType)
