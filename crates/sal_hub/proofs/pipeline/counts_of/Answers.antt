-- One more is counted.
use Rattle.std.proofs.Common.{◌≡◌, ◌<◌, ◌-◌, ◌++◌, ◌∷◌, [], length, ap, sym, ◌∙◌, subst, arith}
use Rattle.std.proofs.lemmas.Grind.{common_steps}
use Rattle.sal_commit.specs.declared.domain.Domain.{Domain}
use Rattle.sal_graft.specs.Kept.{AreKept, ops_of}
use Rattle.sal_graft.proofs.KeptLemmas.{length-ops_of}
use Rattle.sal_hub.proofs.Cutting.{counted}
use Rattle.sal_hub.proofs.pipeline.counts_of.Goals as goal

pub loop-domain-preserved : goal.loop-domain-preserved
loop-domain-preserved c =
    let ds = c.args.domains.now in
    let i = c.loop-domain.domain-index in
    let d = c.domain-item.result in
    let within : i < length ds = omega arith in
    let are : AreKept d.commits.items = subst (λ (x : Domain). AreKept x.commits.items) (sym c.domain-item.is) (c.requires i d within) in
    let long : length (ops_of d.commits.items) ≡ length d.commits.items - 1 = length-ops_of d.commits.items are.opened in
    let count : c.len.result - 1 ≡ length (ops_of d.commits.items) = grind (arith, common_steps, long) in
    c.in_ok-push.ensures.items ∙ ap (λ n. c.loop-domain.counts.items ++ n ∷ []) count ∙ (λ j. c.loop-domain.invariant j ++ length (ops_of d.commits.items) ∷ []) ∙ sym (counted ds i d within c.domain-item.is)
