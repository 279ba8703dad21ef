use Rattle.std.proofs.Common.{◌≡◌, List, [], ap, ◌∙◌, drop}
use Rattle.sal_owner.specs.declared.shift.Shift.{Shift}
use Rattle.sal_owner.specs.Kept.{told_from}
use Rattle.sal_owner.specs.Shifts.{told_over}
use Rattle.sal_owner.proofs.Maps.{on_if}
use Rattle.sal_owner.proofs.Numbered.{numbers-rise, told-by-numbers}
use Rattle.sal_owner.proofs.shifts.Shifts.told.Goals as goal

pub due_of-requires : goal.due_of-requires
due_of-requires c = numbers-rise c.self.inside.list.items c.self.inside.numbers.entries c.self.invariant

pub returns : goal.returns
returns c =
    let shifts = c.self.inside.list.items in
    let due = c.in_ok-due.due.entries in
    on_if (λ (list : _). list.items ≡ told_over c.args.client c.deref.result.now [] due) (λ (list : _). list.items ≡ told_from c.args.kinds.now c.args.client c.args.from (drop c.args.from c.args.self.now)) c.told_all.result
    (λ list is. is ∙ ap (λ (ss : List Shift). told_over c.args.client ss [] due) c.deref.ensures.value
    ∙ told-by-numbers c.starts.result.now.entries c.args.client shifts c.self.inside.numbers.entries c.args.from due c.self.invariant c.due_of.ensures.kinds_ordered c.told_all.ensures.ordered c.in_ok-due.ensures.due
    ∙ ap (λ ks. told_from ks c.args.client c.args.from (drop c.args.from shifts)) c.starts.ensures
    ∙ ap (λ (ss : List Shift). told_from c.args.kinds.now c.args.client c.args.from (drop c.args.from ss)) c.self.view_is)
    c.told_all.ensures.list
