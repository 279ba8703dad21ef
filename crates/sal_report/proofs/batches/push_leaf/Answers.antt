use Rattle.std.proofs.Common.{option_map, ap, ◌∙◌}
use Rattle.serde_json.specs.Written.{has_float}
use Rattle.sal_report.proofs.Floats.{has_float-leaf_data}
use Rattle.sal_report.proofs.batches.push_leaf.Goals as goal

pub push_value-requires : goal.push_value-requires
push_value-requires c = ap has_float c.in_ok-json.ensures ∙ has_float-leaf_data c.args.schema.now _ c.args.value.now
