-- Each example by computation.
use Rattle.std.proofs.Common.{refl}
use Rattle.std.specs.Str.{chars, is_utf8}
use Rattle.std.specs.Str.Lossy.{utf8_valid_len}
use Rattle.serde_json.proofs.OnLiterals.{serde_json_on_literals}
use Rattle.sal_restrict.specs.declared.yang_type.YangType.TheViews.{out-roll-YangType}
use Rattle.sal_schema.specs.Table.{closest}
use Rattle.sal_schema.specs.Valid.{is_good_type}
use Rattle.examples_worked.proofs.boxes.a_box_is_written.Goals as goal

pub returns : goal.returns
unfolding closest serde_json_on_literals utf8_valid_len is_utf8 chars
returns c = record { table = simp (is_good_type, out-roll-YangType); text = refl }
