-- The rows so far are before those of the rest of the members, or of the entries if the same were seen.
use Rattle.std.proofs.Common.{◌≡◌, List, drop}
use Rattle.serde_json.specs.View.{items_view, members_view}
use Rattle.sal_types.specs.declared.value.Step.{Step}
use Rattle.sal_data.specs.Read.{followed, members_rows, entries_rows}
use Rattle.sal_data.specs.Walked.{HaveSame}
use Rattle.sal_data.proofs.reader.Reader.+walk.Given as goal

abbrev pub invariant-members_rows-loop-name : goal.invariant-members_rows-loop-name
invariant-members_rows-loop-name l =
    followed l.initial.out.items (members_rows l.self.schema.now l.parent l.path (members_view l.members.entries)) ≡ followed l.out.items (members_rows l.self.schema.now l.parent l.path (members_view l.name-iterator))

abbrev pub invariant-entries_rows-loop-item : goal.invariant-entries_rows-loop-item
invariant-entries_rows-loop-item l =
    (seen : List Step) × HaveSame l.seen seen
    × (followed l.initial.out.items (entries_rows l.self.schema.now l.node l.path l.initial.seen (items_view l.item-items)) ≡ followed l.out.items (entries_rows l.self.schema.now l.node l.path seen (items_view (drop l.item-index l.item-items))))
