-- One span is looked at.
use Rattle.std.proofs.Common.{◌≡◌, ℕ, ◌-◌, ◌+◌, length, take, Option, ap, sym, ◌∙◌, arith, reverse}
use Rattle.std.specs.Prelude.{find}
use Rattle.std.specs.Option.{option_or}
use Rattle.sal_rows.specs.Commits.{touches_at}
use Rattle.sal_rows.specs.Clash.{numbers_over}
use Rattle.sal_graft.specs.Kept.{opening_in, ops_of}
use Rattle.sal_graft.proofs.Clashes.{turn_at}
use Rattle.sal_graft.proofs.naming.last_touch_over.Goals as goal

pub returns-in-Some : goal.returns-in-Some
returns-in-Some c =
    let t = touches_at (opening_in c.args.commits.now) (ops_of c.args.commits.now) c.args.store c.args.steps.now in
    let spans = c.args.spans.now in
    let n = length spans - 1 - c.loop-back.back in
    let rest = find t (reverse (numbers_over (take n spans))) in
    let whole : n + 1 ≡ length spans - c.loop-back.back = omega arith in
    sym (turn_at t spans n _ (omega arith) ∙ ap (λ (o : Option ℕ). option_or o rest) (sym c.touch_in.ensures ∙ c.in-Some.is))
    ∙ ap (λ m. find t (reverse (numbers_over (take m spans)))) whole ∙ c.loop-back.invariant

pub loop-back-preserved : goal.loop-back-preserved
loop-back-preserved c =
    let t = touches_at (opening_in c.args.commits.now) (ops_of c.args.commits.now) c.args.store c.args.steps.now in
    let spans = c.args.spans.now in
    let n = length spans - 1 - c.loop-back.back in
    let rest = find t (reverse (numbers_over (take n spans))) in
    let whole : n + 1 ≡ length spans - c.loop-back.back = omega arith in
    let left : length spans - (c.loop-back.back + 1) ≡ n = omega arith in
    ap (λ m. find t (reverse (numbers_over (take m spans)))) left
    ∙ sym (turn_at t spans n _ (omega arith) ∙ ap (λ (o : Option ℕ). option_or o rest) (sym c.touch_in.ensures ∙ c.in_default.is))
    ∙ ap (λ m. find t (reverse (numbers_over (take m spans)))) whole ∙ c.loop-back.invariant

pub returns : goal.returns
returns c =
    let t = touches_at (opening_in c.args.commits.now) (ops_of c.args.commits.now) c.args.store c.args.steps.now in
    let none : length c.args.spans.now - c.loop-back.back ≡ 0 = omega arith in
    sym (ap (λ m. find t (reverse (numbers_over (take m c.args.spans.now)))) none) ∙ c.loop-back.invariant
