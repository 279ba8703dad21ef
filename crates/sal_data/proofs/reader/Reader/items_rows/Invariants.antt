-- The rows so far are before those of the items that are left, if the same entries were seen.
use Rattle.std.proofs.Common.{◌≡◌, List, drop}
use Rattle.serde_json.specs.View.{items_view}
use Rattle.sal_types.specs.declared.value.Step.{Step}
use Rattle.sal_data.specs.Read.{followed, items_rows}
use Rattle.sal_data.specs.Walked.{HaveSame}
use Rattle.sal_data.proofs.reader.Reader.items_rows.Given as goal

abbrev pub invariant-loop-item : goal.invariant-loop-item
invariant-loop-item l =
    (seen : List Step) × HaveSame l.seen seen
    × (followed l.initial.out.items (items_rows l.self.schema.now l.node l.path l.initial.seen (items_view l.item-items)) ≡ followed l.out.items (items_rows l.self.schema.now l.node l.path seen (items_view (drop l.item-index l.item-items))))
