use Rattle.std.proofs.Common.{◌≡◌, ◌+◌, ◌^◌, take, drop, true, length, nat_lt, codes, ap, ◌∙◌, arith}
use Rattle.std.proofs.lemmas.Bool.Decides.{nat_tests}
use Rattle.sal_restrict.specs.Words.{place_of, trim}
use Rattle.sal_restrict.specs.Bounds.{bound}
use Rattle.sal_restrict.specs.RangeTexts.{between}
use Rattle.sal_restrict.proofs.span.read_span.Goals as goal

pub returns-clause-value : goal.returns-clause-value
returns-clause-value c =
    let digits = c.args.digits in
    let outer = c.args.outer in
    let text = c.args.text.now in
    let found : nat_lt (place_of (codes "..") text) (length text) ≡ true = grind (arith, nat_tests) in
    let place = c.place_of-dots.ensures.value in
    let low = c.read_bound-low.ensures.value ∙ ap (λ t. bound digits outer t) (c.trim-2.ensures ∙ ap trim (c.front.ensures ∙ ap (λ n. take n text) place)) in
    let high = c.read_bound-high.ensures.value ∙ ap (λ t. bound digits outer t) (c.trim-3.ensures ∙ ap trim (c.behind.ensures ∙ ap (λ n. drop (n + 2) text) place)) in
    rw found (c.between-2.ensures.value (10 ^ digits) ∙ (λ i. between (low i) (high i)))
