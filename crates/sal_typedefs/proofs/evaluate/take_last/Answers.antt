use Rattle.std.proofs.Common.{◌≡◌, [], rules, List, drop, reverse, subst, sym, arith}
use Rattle.sal_typedefs.specs.declared.judgement.Judgement.{Judgement}
use Rattle.sal_typedefs.specs.Judgements.{AreJudged}
use Rattle.sal_typedefs.proofs.RunLists.{taken-more, taken-all}
use Rattle.sal_typedefs.proofs.evaluate.take_last.Goals as goal

pub returns-in-None : goal.returns-in-None
returns-in-None c judged are =
    let inv = c.loop-i.invariant judged are in
    let empty : c.loop-i.done.items ≡ [] = search rules in
    let same : c.pop.new.self.items ≡ c.loop-i.done.items = search rules in
    let all = taken-all c.loop-i.i c.args.count judged c.loop-i.done.items c.loop-i.below.items empty (omega arith) inv.1 inv.0 in
    let P : List Judgement → Type 0 = λ ds. AreJudged (reverse ds) (drop c.args.count judged) in
    (all.0, subst P (sym same) all.1)

pub loop-i-preserved : goal.loop-i-preserved
loop-i-preserved c judged are =
    let inv = c.loop-i.invariant judged are in
    taken-more c.loop-i.i judged c.in-Some.judgement c.pop.new.self.items c.loop-i.done.items c.loop-i.below.items c.append.new.list.items c.in-Some.ensures.items c.in_ok-append-in-Some.ensures inv.1 inv.0
