use Rattle.std.proofs.Common.{◌≡◌, length, ◌∙◌, arith}
use Rattle.std.proofs.lemmas.Bool.Decides.{nat_tests}
use Rattle.sal_restrict.proofs.Digits.{slice_cmp-decimal, order_of_lengths}
use Rattle.sal_restrict.proofs.bound.order_of_digits.Goals as goal

pub returns-in-Equal : goal.returns-in-Equal
returns-in-Equal c da db fa fb =
    let same : length c.args.a.now ≡ length c.args.b.now = grind (arith, nat_tests) in
    c.cmp-in-Equal.ensures ∙ slice_cmp-decimal _ _ da db same

pub returns-in_default : goal.returns-in_default
returns-in_default c da db fa fb =
    c.cmp.ensures ∙ order_of_lengths c.args.a.now c.args.b.now da db fa fb (λ e. c.in_default.not-Equal (c.cmp.ensures ∙ e))
