use Rattle.std.proofs.Common.{nat_lt, ap, sym, ◌∙◌}
use Rattle.sal_restrict.specs.Bounds.{decimal}
use Rattle.sal_restrict.proofs.Digits.{by_wholes, first_or}
use Rattle.sal_restrict.proofs.bound.is_smaller.Goals as goal

pub returns-in-Less : goal.returns-in-Less
returns-in-Less c scale na nb =
    let a = c.args.a.now in
    let b = c.args.b.now in
    let order = c.order_of_digits.ensures na.digits nb.digits na.first nb.first in
    sym (by_wholes scale (decimal a.whole.now) (decimal b.whole.now) a.fraction b.fraction na.fraction nb.fraction ∙ ap (λ o. first_or o (nat_lt a.fraction b.fraction)) (sym order ∙ c.in-Less.is))
