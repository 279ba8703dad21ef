-- One more.
use Rattle.std.proofs.Common.{◌≡◌, ◌+◌, ℕ, Bool, None, Option, Some, ap, ◌∙◌, arith, if◌then◌else◌}
use Rattle.std.specs.Option.{option_or}
use Rattle.sal_retell.specs.Light.{begins_on}
use Rattle.sal_retell.proofs.Walks.{last_more}
use Rattle.sal_retell.proofs.queries.last_begun.Goals as goal

pub loop-i-preserved : goal.loop-i-preserved
loop-i-preserved c =
    let i = c.loop-i.i in
    let last : Option ℕ = c.loop-i.last in
    let at : i ≡ 0 + i = omega arith in
    last_more 0 (begins_on c.args.chain) c.args.began.now i i _ last c.later-last.result c.loop-i-test.true at c.loop-i.invariant (c.later-last.ensures ∙ ap (λ (b : Bool). option_or (if b then Some i else None) last) c.begins_on.ensures)
