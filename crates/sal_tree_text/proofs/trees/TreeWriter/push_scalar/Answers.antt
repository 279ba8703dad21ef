use Rattle.std.proofs.Common.{ap, ◌∙◌}
use Rattle.serde_json.specs.Written.{has_float}
use Rattle.sal_tree_text.proofs.Floats.{has_float-scalar}
use Rattle.sal_tree_text.proofs.trees.TreeWriter.push_scalar.Goals as goal

pub push_json-requires : goal.push_json-requires
push_json-requires c = ap has_float c.in_ok-json.ensures ∙ has_float-scalar c.args.self.now.schema.now c.args.node c.args.value.now
