use Rattle.std.proofs.Common.{ap, ◌∙◌}
use Rattle.serde_json.specs.Written.{has_float}
use Rattle.sal_report.proofs.Floats.{has_float-write_data}
use Rattle.sal_report.proofs.pieces.push_data.Goals as goal

pub push_value-requires : goal.push_value-requires
push_value-requires c = ap has_float c.in_ok-value.ensures ∙ has_float-write_data c.args.schema.now c.args.path.now c.args.rows.now
