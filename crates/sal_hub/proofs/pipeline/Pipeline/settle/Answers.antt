-- The decisions before memory ran out are undone.
use Rattle.std.proofs.Common.{◌≡◌, ◌-◌, List, drop, length, map, take, ap, sym, ◌∙◌, subst, arith}
use Rattle.std.proofs.lemmas.Grind.{common_steps}
use Rattle.sal_commit.specs.declared.domain.Domain.{Domain}
use Rattle.sal_hub.specs.Failures.{cut_failures}
use Rattle.sal_hub.specs.PipelineView.{AreDecided, PipelineView, Reach, counts_of, cut_all, queue_of, shown}
use Rattle.sal_hub.proofs.Cutting.{as_many, reaches, taken_back}
use Rattle.sal_hub.proofs.Deciding.{decided-shorter}
use Rattle.sal_hub.proofs.pipeline.Pipeline.settle.Goals as goal

pub cut_back-requires-clause-long : goal.cut_back-requires-clause-long
cut_back-requires-clause-long c =
    let counts : c.in_ok-counts.counts.items ≡ counts_of (map shown c.args.self.now.domains.items) = c.in_ok-counts.ensures ∙ ap (λ (ds : List Domain). counts_of (map shown ds)) c.deref.ensures.value in
    ap length c.deref-in-Err.ensures.value ∙ as_many c.args.self.now c.decide_upto.new.self c.requires.kept c.in-Err.ensures.grown c.in_ok-counts.counts.items counts

pub cut_back-requires-clause-reach : goal.cut_back-requires-clause-reach
cut_back-requires-clause-reach c =
    let old = c.args.self.now in
    let new = c.decide_upto.new.self in
    let counts : c.in_ok-counts.counts.items ≡ counts_of (map shown old.domains.items) = c.in_ok-counts.ensures ∙ ap (λ (ds : List Domain). counts_of (map shown ds)) c.deref.ensures.value in
    subst (Reach (map shown new.domains.items)) (sym c.deref-in-Err.ensures.value) (reaches old new c.requires.kept c.in-Err.ensures.grown c.in_ok-counts.counts.items counts)

pub returns-clause-same : goal.returns-clause-same
returns-clause-same c =
    let old = c.args.self.now in
    let new = c.decide_upto.new.self in
    let counts : c.in_ok-counts.counts.items ≡ counts_of (map shown old.domains.items) = c.in_ok-counts.ensures ∙ ap (λ (ds : List Domain). counts_of (map shown ds)) c.deref.ensures.value in
    let cut : map shown c.cut_back.new.self.domains.items ≡ cut_all (map shown new.domains.items) c.in_ok-counts.counts.items =
    c.cut_back.ensures.domains ∙ ap (cut_all (map shown new.domains.items)) c.deref-in-Err.ensures.value in
    let count : c.len-outcomes.result ≡ length old.outcomes.items = grind (arith, common_steps) in
    let taken : c.cut_back.new.self.outcomes.items ≡ take (length old.outcomes.items) new.outcomes.items = c.cut_back.ensures.outcomes ∙ ap (λ n. take n new.outcomes.items) count in
    let forgotten : c.cut_back.new.self.failures.items ≡ cut_failures (length old.outcomes.items) new.failures.items = c.cut_back.ensures.failures ∙ ap (λ n. cut_failures n new.failures.items) count in
    taken_back old new c.requires.kept c.in-Err.ensures.grown c.in_ok-counts.counts.items counts c.cut_back.new.self.domains.items c.cut_back.new.self.gone c.cut_back.new.self.waiting.items c.cut_back.new.self.outcomes.items c.cut_back.new.self.failures.items cut c.cut_back.ensures.gone c.cut_back.ensures.waiting taken forgotten

-- a decided submission is removed from the queue
pub returns-in-Ok-clause-decided : goal.returns-in-Ok-clause-decided
returns-in-Ok-clause-decided c = λ ss sound.
    let old = c.args.self.now in
    let new = c.decide_upto.new.self in
    let count : c.len.result ≡ length new.outcomes.items = grind (arith, common_steps) in
    let gone : c.let_go.new.gone ≡ length new.outcomes.items = c.let_go.ensures.gone ∙ count in
    let waits : c.let_go.new.waiting.items ≡ drop (length new.outcomes.items - new.gone) new.waiting.items = c.let_go.ensures.waiting ∙ ap (λ n. drop (n - new.gone) new.waiting.items) count in
    subst (AreDecided ss (queue_of old) (c.args.receipt - length old.outcomes.items))
    (λ i. let queue : PipelineView = record { domains = map shown new.domains.items; gone = sym gone i; waiting = sym waits i; outcomes = new.outcomes.items; failures = new.failures.items } in queue)
    (decided-shorter ss (queue_of old) (c.args.receipt - length old.outcomes.items) (queue_of new) (c.in-Ok.ensures.decided ss sound))
