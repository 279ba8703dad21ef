-- The commit that is found gave the stamp, or none did if it is the start of the span.
use Rattle.std.proofs.Common.{List, ◌≡◌, ◌==◌, ◌/◌, true, false, Some, None, ap, sym, ◌∙◌, arith, if◌then◌else◌}
use Rattle.std.proofs.lemmas.Bool.Decides.{nat_tests}
use Rattle.sal_types.specs.declared.value.Step.{Step}
use Rattle.sal_types.specs.declared.value.Store.{Store}
use Rattle.sal_graft.proofs.Stamps.{IsFirst, first-last}
use Rattle.sal_graft.proofs.naming.giver.Goals as goal

pub returns-then-number-span : goal.returns-then-number-span
returns-then-number-span c d s p n at_d stands same =
    let number = c.first_from-number.result in
    let found : (s : Store) (p : List Step) → IsFirst c.args.commits.now c.requires.kept c.requires.following c.args.span c.requires.span s p (c.args.stamp / 2) number =
    λ s p. record { low = c.first_from-number.ensures.low; high = c.first_from-number.ensures.high; before = c.first_from-number.ensures.before; here = c.first_from-number.ensures.here } in
    let is : (number == c.args.span.from) ≡ true = grind (arith, nat_tests, c.if-number-span.true) in
    ap (λ b. if b then None else Some number) (sym is) ∙ first-last c.args.commits.now c.requires.kept c.requires.following c.args.span c.requires.span s p number c.args.stamp d n (found s p) at_d stands same

pub returns : goal.returns
returns c d s p n at_d stands same =
    let number = c.first_from-number.result in
    let found : (s : Store) (p : List Step) → IsFirst c.args.commits.now c.requires.kept c.requires.following c.args.span c.requires.span s p (c.args.stamp / 2) number =
    λ s p. record { low = c.first_from-number.ensures.low; high = c.first_from-number.ensures.high; before = c.first_from-number.ensures.before; here = c.first_from-number.ensures.here } in
    let is : (number == c.args.span.from) ≡ false = grind (arith, nat_tests, c.if-number-span.false) in
    ap (λ b. if b then None else Some number) (sym is) ∙ first-last c.args.commits.now c.requires.kept c.requires.following c.args.span c.requires.span s p number c.args.stamp d n (found s p) at_d stands same
