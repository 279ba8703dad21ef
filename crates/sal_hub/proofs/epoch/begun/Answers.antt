-- One more begins anew.
use Rattle.std.proofs.Common.{◌≡◌, ◌<◌, List, ap, length, map, sym, ◌∙◌, subst, refl, arith}
use Rattle.std.proofs.lemmas.Grind.{common_steps}
use Rattle.std.proofs.lemmas.List.{length-map}
use Rattle.sal_commit.specs.declared.domain.Domain.{Domain}
use Rattle.sal_graft.specs.Kept.{AreKept}
use Rattle.sal_hub.specs.PipelineView.{DomainView, shown}
use Rattle.sal_hub.proofs.NextEpoch.{anew-all-kept, begun_upto, upto-all, upto-more}
use Rattle.sal_hub.proofs.epoch.begun.Goals as goal

pub loop-i-init : goal.loop-i-init
loop-i-init c = record { kept = c.requires; begun = refl }

pub begin_anew-requires : goal.begin_anew-requires
begin_anew-requires c =
    let ds = c.loop-i.domains.items in
    let within : c.loop-i.i < length ds = grind (arith, common_steps) in
    let d = c.index_mut.result.now in
    subst (λ (x : Domain). AreKept x.commits.items) (sym c.index_mut.ensures.value) (c.loop-i.invariant.kept c.loop-i.i d within)

pub loop-i-preserved : goal.loop-i-preserved
loop-i-preserved c =
    let ds = c.loop-i.domains.items in
    let i = c.loop-i.i in
    let within : i < length ds = grind (arith, common_steps) in
    let d = c.index_mut.result.now in
    record {
      kept = anew-all-kept ds i c.begin_anew.new.self c.begin_anew.ensures.kept c.loop-i.invariant.kept;
      begun = upto-more c.args.rules ds (map shown c.args.domains.items) i d c.begin_anew.new.self within c.index_mut.ensures.value c.begin_anew.ensures c.loop-i.invariant.begun;
    }

pub returns-clause-begun : goal.returns-clause-begun
returns-clause-begun c =
    let shown_all : List DomainView = map shown c.args.domains.items in
    let count : c.loop-i.i ≡ length c.args.domains.items = grind (arith, common_steps) in
    let all : c.loop-i.i ≡ length shown_all = count ∙ sym (length-map c.args.domains.items shown) in
    c.loop-i.invariant.begun ∙ ap (λ n. begun_upto c.args.rules n shown_all) all ∙ upto-all c.args.rules shown_all
