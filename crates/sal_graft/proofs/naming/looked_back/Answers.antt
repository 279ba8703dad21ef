-- One commit is looked at.
use Rattle.std.proofs.Common.{◌≡◌, ◌-◌, ◌+◌, true, false, Some, ap, sym, ◌∙◌, cond, arith, reverse}
use Rattle.std.specs.Prelude.{find}
use Rattle.sal_rows.specs.Commits.{numbers_after, touches_at}
use Rattle.sal_graft.specs.Kept.{opening_in, ops_of}
use Rattle.sal_graft.proofs.Looking.{turn_back}
use Rattle.sal_graft.proofs.naming.looked_back.Goals as goal

pub returns-then-touches_at : goal.returns-then-touches_at
returns-then-touches_at c =
    let t = touches_at (opening_in c.args.commits.now) (ops_of c.args.commits.now) c.args.store c.args.steps.now in
    let k = c.args.span.to - c.loop-back.back in
    let rest = find t (reverse (numbers_after c.args.span.from (c.args.span.to - c.args.span.from - (c.loop-back.back + 1)))) in
    let tested : true ≡ t k = sym c.if-touches_at.true ∙ c.touches_at.ensures in
    ap (λ b. cond b (Some k) rest) tested ∙ sym (turn_back t c.args.span.from c.args.span.to c.loop-back.back c.requires.span.ordered (omega arith)) ∙ c.loop-back.invariant

pub loop-back-preserved : goal.loop-back-preserved
loop-back-preserved c =
    let t = touches_at (opening_in c.args.commits.now) (ops_of c.args.commits.now) c.args.store c.args.steps.now in
    let k = c.args.span.to - c.loop-back.back in
    let rest = find t (reverse (numbers_after c.args.span.from (c.args.span.to - c.args.span.from - (c.loop-back.back + 1)))) in
    let tested : false ≡ t k = sym c.if-touches_at.false ∙ c.touches_at.ensures in
    ap (λ b. cond b (Some k) rest) tested ∙ sym (turn_back t c.args.span.from c.args.span.to c.loop-back.back c.requires.span.ordered (omega arith)) ∙ c.loop-back.invariant

pub returns : goal.returns
returns c =
    let t = touches_at (opening_in c.args.commits.now) (ops_of c.args.commits.now) c.args.store c.args.steps.now in
    let zero : c.args.span.to - c.args.span.from - c.loop-back.back ≡ 0 = omega arith in
    sym (ap (λ n. find t (reverse (numbers_after c.args.span.from n))) zero) ∙ c.loop-back.invariant
