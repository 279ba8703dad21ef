use Rattle.std.proofs.Common.{◌≡◌, false, arith, ap, ◌∙◌}
use Rattle.std.specs.Prelude.{is_some}
use Rattle.std.specs.BTreeMap.{is_at}
use Rattle.std.specs.Map.{remove_entry}
use Rattle.std.specs.Ordering.{nat_cmp}
use Rattle.sal_note.specs.Boxes.{box_in}
use Rattle.sal_note.proofs.Boxed.{none-of, remove-insert}
use Rattle.sal_note.proofs.notes.subscribe.Goals as goal

pub returns-clause-same_queues : goal.returns-clause-same_queues
returns-clause-same_queues c =
    let none : is_some (box_in c.args.queues.now.entries c.args.client) ≡ false = grind (arith, c.contains_key.ensures, c.if-contains_key.false) in
    c.remove.ensures.entries ∙ ap (remove_entry (is_at (nat_cmp c.args.client))) c.in_ok-insert.ensures.entries ∙ remove-insert c.args.client _ c.args.queues.now.entries (none-of (box_in c.args.queues.now.entries c.args.client) none)
