-- The values so far are before those of the keys that are left.
use Rattle.std.proofs.Common.{◌≡◌, drop}
use Rattle.serde_json.specs.View.{members_view}
use Rattle.sal_data.specs.Read.{key_values}
use Rattle.sal_data.proofs.Following.{in_front}
use Rattle.sal_data.proofs.reader.Reader.key_values.Given as goal

abbrev pub invariant-loop-key : goal.invariant-loop-key
invariant-loop-key l =
    key_values l.self.schema.now l.node l.path (members_view l.members.entries) l.keys ≡ in_front l.values.items (key_values l.self.schema.now l.node l.path (members_view l.members.entries) (drop l.key-index l.keys))
