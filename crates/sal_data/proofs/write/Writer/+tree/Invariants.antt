use Rattle.std.proofs.Common.{◌≡◌, ◌+◌, ◌*◌, ◌++◌, length, map, fold}
use Rattle.serde_json.specs.View.{view, members_view}
use Rattle.serde_json.specs.Data.{no_members}
use Rattle.sal_data.specs.Written.{entries_json, with_run, node_json, runs_of}
use Rattle.sal_data.proofs.write.Writer.+tree.Given as goal

abbrev pub decreases-node_json : goal.decreases-node_json
decreases-node_json l = 5 * l.levels

abbrev pub decreases-add_run : goal.decreases-add_run
decreases-add_run l = 5 * l.levels + 1

abbrev pub decreases-members_json : goal.decreases-members_json
decreases-members_json l = 5 * l.levels + 2

abbrev pub decreases-push_entry : goal.decreases-push_entry
decreases-push_entry l = 5 * l.levels + 3

abbrev pub decreases-entries_json : goal.decreases-entries_json
decreases-entries_json l = 5 * l.levels + 4

abbrev pub invariant-members_json-runs : goal.invariant-members_json-runs
invariant-members_json-runs l =
    let with = with_run l.self.schema.now l.parent (node_json l.levels l.self.schema.now) l.k in
    fold with (members_view l.members.entries) (runs_of l.k l.rest) ≡ fold with no_members (runs_of l.k l.rows)

abbrev pub decreases-members_json-runs : goal.decreases-members_json-runs
decreases-members_json-runs l = length l.rest

abbrev pub invariant-entries_json-runs : goal.invariant-entries_json-runs
invariant-entries_json-runs l =
    let f = node_json l.levels l.self.schema.now in
    map view l.entries.items ++ entries_json l.self.schema.now l.node f l.k (runs_of l.k l.rest) ≡ entries_json l.self.schema.now l.node f l.k (runs_of l.k l.rows)

abbrev pub decreases-entries_json-runs : goal.decreases-entries_json-runs
decreases-entries_json-runs l = length l.rest
