-- Each example by computation.
use Rattle.std.proofs.Common.{refl}
use Rattle.std.specs.Str.{chars}
use Rattle.sal_restrict.specs.declared.yang_type.YangType.TheViews.{out-roll-YangType}
use Rattle.sal_schema.specs.Table.{closest}
use Rattle.sal_schema.specs.Values.{is_of_type, is_of_plain}
use Rattle.sal_data.specs.Written.{scalar_json, node_json, runs_of}
use Rattle.examples_worked.proofs.values.entries_are_whole.Goals as goal

pub returns : goal.returns
unfolding closest chars scalar_json node_json runs_of
returns c = record { entry = simp (is_of_type, is_of_plain, out-roll-YangType); first_key = simp (is_of_type, is_of_plain, out-roll-YangType); second_key = simp (is_of_type, is_of_plain, out-roll-YangType); leaf = simp (is_of_type, is_of_plain, out-roll-YangType); tag = simp (is_of_type, is_of_plain, out-roll-YangType); lamp = simp (is_of_type, is_of_plain, out-roll-YangType); size = simp (is_of_type, is_of_plain, out-roll-YangType); whole = simp (is_of_type, is_of_plain, out-roll-YangType); absent = refl }
