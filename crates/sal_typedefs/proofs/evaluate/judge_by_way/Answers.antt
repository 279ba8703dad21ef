use Rattle.std.proofs.Common.{◌≡◌, ◌∙◌, List, [], reverse, rules, sym, ap, subst}
use Rattle.sal_typedefs.specs.declared.judgement.Judgement.{Judgement}
use Rattle.sal_typedefs.specs.Names.{steps_of}
use Rattle.sal_typedefs.specs.Spots.{site_of}
use Rattle.sal_typedefs.specs.Walks.{Node}
use Rattle.sal_typedefs.specs.Judgements.{AreJudged}
use Rattle.sal_typedefs.specs.Runs.{run}
use Rattle.sal_typedefs.proofs.RunLists.{top-judged, top-there}
use Rattle.sal_typedefs.proofs.evaluate.judge_by_way.Goals as goal

pub returns : goal.returns
returns c =
    let modules = c.args.typedefs.now in
    let P : List Node → Type 0 = λ n. AreJudged (reverse c.in_ok-done.done.items) (run modules n) in
    let way = rw c.as_slice.ensures.value at c.in_ok-done.ensures in
    let is = top-judged (steps_of modules) modules (site_of c.args.spot) c.pop.new.self.items c.in-Some.judgement c.in_ok-done.done.items c.in-Some.ensures.items (subst P c.in_ok-nodes.ensures way) in
    let fault = c.in_ok-found-in-Some.ensures.fault ∙ ap (λ (j : Judgement). j.fault) c.value.ensures in
    record {
      fault = fault ∙ is.fault;
      meant = λ none. c.in_ok-found-in-Some.ensures.meant ∙ ap (λ (j : Judgement). j.ty) c.value.ensures ∙ is.type (sym fault ∙ none);
    }

pub unreachable-requires : goal.unreachable-requires
unreachable-requires c =
    let modules = c.args.typedefs.now in
    let P : List Node → Type 0 = λ n. AreJudged (reverse c.in_ok-done.done.items) (run modules n) in
    let way = rw c.as_slice.ensures.value at c.in_ok-done.ensures in
    let none : c.in_ok-done.done.items ≡ [] = search rules in
    top-there (steps_of modules) modules (site_of c.args.spot) c.in_ok-done.done.items none (subst P c.in_ok-nodes.ensures way)
