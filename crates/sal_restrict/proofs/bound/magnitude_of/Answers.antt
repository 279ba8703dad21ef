use Rattle.std.proofs.Common.{◌≡◌, ◌+◌, ◌*◌, ◌^◌, true, length, Some, nat_le, ap, ◌∙◌, arith}
use Rattle.std.proofs.lemmas.Bool.{and_parts}
use Rattle.std.proofs.lemmas.Bool.Decides.{nat_tests}
use Rattle.sal_restrict.specs.Bounds.{decimal, is_digits}
use Rattle.sal_restrict.proofs.Digits.{decimal-without_zeros, first-without_zeros, digits-drop}
use Rattle.sal_restrict.proofs.bound.magnitude_of.Goals as goal

pub returns-clause-value : goal.returns-clause-value
returns-clause-value c =
    let few : nat_le (length c.args.further.now) c.args.digits ≡ true = grind (arith, nat_tests) in
    let digits : is_digits c.args.whole.now ≡ true = grind (arith, nat_tests) in
    let whole = ap decimal c.without_zeros.ensures ∙ decimal-without_zeros c.args.whole.now in
    rw (digits, few) (λ i. Some (whole i * 10 ^ c.args.digits + c.fraction_of.ensures.value i))

pub returns-clause-normal : goal.returns-clause-normal
returns-clause-normal c =
    let whole = c.args.whole.now in
    let digits : is_digits whole ≡ true = grind (arith, nat_tests) in
    let all = (and_parts _ _ digits).1 in
    record {
      digits = rw c.without_zeros.ensures (digits-drop _ whole all);
      first = rw c.without_zeros.ensures (first-without_zeros whole);
      fraction = c.fraction_of.ensures.less;
    }
