-- The walk is at its end.
use Rattle.std.proofs.Common.{◌≡◌, ◌+◌, ◌≤◌, ℕ, drop, length, min, ap, refl, sym, ◌∙◌, arith}
use Rattle.sal_retell.specs.Light.{commits_of}
use Rattle.sal_retell.proofs.Ends.{commits_none}
use Rattle.sal_retell.proofs.Walks.{both_all}
use Rattle.sal_retell.proofs.queries.commits_of.Goals as goal

pub returns : goal.returns
returns c =
    let sent = c.args.sent.now in
    let done = c.args.done.now in
    let i = c.loop-i.i in
    let end : min (length sent) (length done) ≤ i = omega (arith, c.loop-i-test.false, c.min-i-end.ensures) in
    let none : commits_of c.args.domain (drop i sent) (drop i done) ≡ 0 = both_all (commits_of c.args.domain) 0 (λ ys. refl) (commits_none c.args.domain) sent done i end in
    let all : c.loop-i.count ≡ c.loop-i.count + 0 = omega arith in
    all ∙ ap (λ (n : ℕ). c.loop-i.count + n) (sym none) ∙ c.loop-i.invariant.0
