use Rattle.std.proofs.Common.{◌≡◌, ◌∷◌, ap, sym, ◌∙◌}
use Rattle.std.specs.Map.Iter.{deref_pair}
use Rattle.std.proofs.lemmas.Map.Iter.{rest_more}
use Rattle.sal_owner.specs.Shifts.{due_by, is_due}
use Rattle.sal_owner.proofs.shifts.due_of.Goals as goal

pub loop-kind-preserved : goal.loop-kind-preserved
loop-kind-preserved c = λ n.
    let numbers = c.args.numbers.now.entries in
    let more : c.loop-kind.kind-iterator ≡ (c.in-Some.kind.now, c.in-Some.start.now) ∷ c.next.new.self = rest_more deref_pair c.loop-kind.kind-iterator c.next.new.self c.next.result (c.in-Some.kind, c.in-Some.start) c.in-Some.is c.next.ensures.steps in
    ap (due_by numbers c.args.from n c.next.new.self) (c.in_ok-add_kind.ensures n) ∙ ap (λ es. due_by numbers c.args.from n es (is_due c.loop-kind.due.entries n)) (sym more) ∙ c.loop-kind.invariant n
