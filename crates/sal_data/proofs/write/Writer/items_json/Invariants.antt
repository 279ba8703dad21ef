use Rattle.std.proofs.Common.{◌≡◌, ◌++◌, length, map}
use Rattle.serde_json.specs.View.{view}
use Rattle.sal_data.specs.Written.{items_json, runs_of}
use Rattle.sal_data.proofs.write.Writer.items_json.Given as goal

abbrev pub invariant-runs : goal.invariant-runs
invariant-runs l =
    map view l.items.items ++ items_json l.self.schema.now l.node l.k (runs_of l.k l.rest) ≡ items_json l.self.schema.now l.node l.k (runs_of l.k l.rows)

abbrev pub decreases-runs : goal.decreases-runs
decreases-runs l = length l.rest
