use Rattle.std.proofs.Common.{◌≡◌, ℕ, ◌-◌, ◌*◌, ◌≤◌, ◌^◌, length, arith}
use Rattle.std.proofs.Math.Nat.{pow-le-pow_right}
use Rattle.sal_restrict.specs.Bounds.{decimal}
use Rattle.sal_restrict.proofs.Digits.{decimal-below, units_below}
use Rattle.sal_restrict.proofs.bound.fraction_of.Goals as goal

few_units : (n : ℕ) → n ≤ 18 → 10 ^ n ≤ 10 ^ 18
few_units n h = pow-le-pow_right (omega arith) h

pub returns-clause-value : goal.returns-clause-value
returns-clause-value c =
    let further = c.args.further.now in
    let n = c.args.digits in
    let k = length further in
    let less = decimal-below further c.requires.plain in
    let all = units_below (decimal further) k n c.requires.short less in
    let most = few_units n c.requires.few in
    let part = few_units k (omega arith) in
    let whole : c.decimal.result ≡ decimal further = omega arith in
    let product : c.decimal.result * c.scale_of.result ≡ decimal further * 10 ^ (n - k) = λ i. whole i * c.scale_of.ensures i in
    omega arith

pub returns-clause-less : goal.returns-clause-less
returns-clause-less c =
    let further = c.args.further.now in
    let all = units_below (decimal further) (length further) c.args.digits c.requires.short (decimal-below further c.requires.plain) in
    rw (returns-clause-value c) all
