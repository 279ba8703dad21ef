-- One more is decided, by the phases of a commit.
use Rattle.std.proofs.Common.{◌≡◌, ◌<◌, ◌+◌, length, List, ℕ, Option, [], ◌∷◌, ◌++◌, subst, sym, ap, ◌∙◌, arith, rules}
use Rattle.std.specs.Vec.{with_items}
use Rattle.std.proofs.lemmas.Grind.{common_steps}
use Rattle.std.proofs.lemmas.List.{with_items_is}
use Rattle.sal_rows.specs.declared.outcome.Outcome.{Outcome}
use Rattle.sal_commit.specs.Deciding.{decide}
use Rattle.sal_history.specs.Submissions.{is_done}
use Rattle.sal_hub.specs.Failures.{IsWithin, failure_of, failures_after}
use Rattle.sal_hub.specs.PipelineView.{HasGrown, queue_of}
use Rattle.sal_hub.proofs.Deciding.{can_now, decided_now, domain_within, grown_none, grown_nothing, grown_now, receipt_now, within_here}
use Rattle.sal_hub.proofs.Noted.{length-after}
use Rattle.sal_hub.proofs.pipeline.Pipeline.decide_one.Goals as goal

pub failure_of-failed-requires : goal.failure_of-failed-requires
failure_of-failed-requires c =
    subst (λ (fs : List (Option ℕ)). IsWithin (length fs) c.index-submission.result.now.chain) (sym c.deref.ensures.value)
    (within_here c.args.self.now c.requires.kept c.requires.sound.0 c.requires.sound.1 c.args.index c.requires.next c.requires.given c.index-submission.result.now c.index-submission.ensures)

pub index_mut-domain-requires : goal.index_mut-domain-requires
index_mut-domain-requires c =
    let within : c.index-submission.result.now.domain < length c.args.self.now.domains.items =
    domain_within c.args.self.now c.requires.kept c.requires.sound.0 c.requires.sound.1 c.args.index c.requires.next c.requires.given c.index-submission.result.now c.index-submission.ensures in
    grind (arith, common_steps)

pub decide-requires-clause-given : goal.decide-requires-clause-given
decide-requires-clause-given c =
    can_now c.args.self.now c.requires.kept c.requires.sound.0 c.requires.sound.1 c.args.index c.requires.next c.requires.given c.index-submission.result.now c.index-submission.ensures
    c.index_mut-domain.result.now c.index_mut-domain.ensures.value

pub decide-requires-clause-later : goal.decide-requires-clause-later
decide-requires-clause-later c =
    receipt_now c.args.self.now c.requires.kept c.requires.sound.0 c.requires.sound.1 c.args.index c.requires.next c.requires.given c.index-submission.result.now c.index-submission.ensures
    c.index_mut-domain.result.now c.index_mut-domain.ensures.value

pub returns-in_err-reserve-clause-grown : goal.returns-in_err-reserve-clause-grown
returns-in_err-reserve-clause-grown c =
    subst (λ (os : List Outcome). HasGrown (queue_of c.args.self.now) (record { domains = (queue_of c.args.self.now).domains; gone = c.args.self.now.gone; waiting = c.args.self.now.waiting.items; outcomes = os; failures = c.args.self.now.failures.items }))
    (sym (c.in_err-reserve.ensures.items)) (grown_none c.requires.sound.0 (queue_of c.args.self.now) c.requires.sound.1)

pub returns-in_err-outcome-clause-grown : goal.returns-in_err-outcome-clause-grown
returns-in_err-outcome-clause-grown c =
    grown_nothing c.args.self.now c.requires.kept c.requires.sound.0 c.requires.sound.1 c.args.index c.requires.next c.requires.given c.index-submission.result.now c.index-submission.ensures
    c.index_mut-domain.result.now c.index_mut-domain.ensures.value c.decide.new.domain c.reserve.new.self.items c.in_err-outcome.ensures.same c.in_err-outcome.ensures.commits c.reserve.ensures.items

pub note_failure-requires : goal.note_failure-requires
note_failure-requires c =
    subst (λ (fs : List (Option ℕ)). IsWithin (length fs) c.index-submission.result.now.chain) (sym c.deref_mut.ensures.value)
    (within_here c.args.self.now c.requires.kept c.requires.sound.0 c.requires.sound.1 c.args.index c.requires.next c.requires.given c.index-submission.result.now c.index-submission.ensures)

pub returns : goal.returns
returns c =
    let p = c.args.self.now in
    let sub = c.index-submission.result.now in
    let d = c.index_mut-domain.result.now in
    let os : c.push.new.self.items ≡ p.outcomes.items ++ c.in_ok-outcome.outcome ∷ [] = grind (arith, common_steps, c.push.ensures.items, c.unwrap.ensures, c.reserve.ensures.items) in
    let failed : c.failure_of-failed.result ≡ failure_of p.failures.items sub.chain = c.failure_of-failed.ensures ∙ ap (λ (fs : List (Option ℕ)). failure_of fs sub.chain) c.deref.ensures.value in
    let noted : c.note_failure.new.failures ≡ failures_after c.deref_mut.result.now sub.chain (c.args.index + 1) c.is_done-done.result = c.note_failure.ensures in
    let long : length c.note_failure.new.failures ≡ p.failures.len =
    ap length noted ∙ length-after c.deref_mut.result.now sub.chain (c.args.index + 1) c.is_done-done.result ∙ c.deref_mut.ensures.len in
    let fs : (with_items p.failures c.note_failure.new.failures).items ≡ failures_after p.failures.items sub.chain (length p.outcomes.items + 1) (is_done c.in_ok-outcome.outcome) =
    with_items_is p.failures c.note_failure.new.failures long ∙ noted ∙ (λ i. failures_after (c.deref_mut.ensures.value i) sub.chain (c.requires.next i + 1) (c.is_done-done.ensures i)) in
    let outcome : c.in_ok-outcome.outcome ≡ decide (failure_of p.failures.items sub.chain) d sub = c.in_ok-outcome.ensures.outcome ∙ ap (λ (f : Option ℕ). decide f d sub) failed in
    record {
      kept = search rules;
      ok = λ ss sound.
          decided_now p c.requires.kept ss sound c.args.index c.requires.next c.requires.given sub c.index-submission.ensures d c.index_mut-domain.ensures.value
          c.in_ok-outcome.outcome outcome c.decide.new.domain c.in_ok-outcome.ensures.decided c.push.new.self.items os (with_items p.failures c.note_failure.new.failures).items fs;
      count = search rules;
      grown = grown_now p c.requires.kept c.requires.sound.0 c.requires.sound.1 c.args.index c.requires.next c.requires.given sub c.index-submission.ensures d c.index_mut-domain.ensures.value
          c.in_ok-outcome.outcome outcome c.decide.new.domain c.in_ok-outcome.ensures.decided c.push.new.self.items os (with_items p.failures c.note_failure.new.failures).items fs;
    }
