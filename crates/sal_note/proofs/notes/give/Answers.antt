use Rattle.std.proofs.Common.{◌≡◌, ap, sym, ◌∙◌}
use Rattle.std.specs.BTreeMap.{is_at}
use Rattle.std.specs.Map.{set_value}
use Rattle.std.specs.Option.{option_copied_mut}
use Rattle.std.specs.Ordering.{nat_cmp}
use Rattle.std.proofs.lemmas.Map.Steps.{set_value_same}
use Rattle.sal_note.proofs.Boxed.{on_err}
use Rattle.sal_note.proofs.notes.give.Goals as goal

pub returns-in-Some-clause-err : goal.returns-in-Some-clause-err
returns-in-Some-clause-err c =
    on_err (c.push.new.self ≡ c.in-Some.queue.now) ((c.get_mut.follows.lender c.push.new.self).entries ≡ c.args.queues.now.entries) c.push.result
    (λ same. (c.get_mut.follows.holds c.push.new.self).0 ∙ ap (set_value (is_at (nat_cmp c.args.client)) c.args.queues.now.entries) same
    ∙ set_value_same (is_at (nat_cmp c.args.client)) c.args.queues.now.entries c.in-Some.queue.now (sym c.get_mut.ensures.value ∙ ap option_copied_mut c.in-Some.is))
    c.push.ensures.err
