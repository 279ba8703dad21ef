use Rattle.std.proofs.Common.{◌++◌, not, nat_eq, filter, slice_get, if◌then◌else◌, ap, sym, ◌∙◌}
use Rattle.sal_owner.specs.Kept.{queue_in, shift_for}
use Rattle.sal_owner.proofs.Maps.{entity-itself}
use Rattle.sal_owner.proofs.kept.withdraw.Goals as goal

pub returns-clause-shifts : goal.returns-clause-shifts
returns-clause-shifts c =
    let x = c.args.entity.now in
    let left = c.remove.ensures x ∙ ap (λ b. if b then filter (λ k. not (nat_eq c.args.client k)) (queue_in c.args.kinds.now x) else queue_in c.args.kinds.now x) (entity-itself x) in
    c.in_ok-note.ensures.ok ∙ (λ i. c.args.shifts.now ++ shift_for x (c.owner-before.ensures i) ((c.owner_but-after.ensures ∙ ap (λ l. slice_get l 0) (sym left)) i))
