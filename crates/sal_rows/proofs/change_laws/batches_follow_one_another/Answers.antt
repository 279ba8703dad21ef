use Rattle.std.proofs.Common.{◌≡◌, ◌+◌, ◌-◌, ◌++◌, ap, ◌∙◌, arith}
use Rattle.sal_rows.specs.Batches.{parts_after}
use Rattle.sal_rows.proofs.Patched.{parts-append}
use Rattle.sal_rows.proofs.change_laws.batches_follow_one_another.Goals as goal

pub returns : goal.returns
returns c own trees p from middle to first second =
    let at : middle ≡ from + (middle - from) = omega (arith, first) in
    let sum : (middle - from) + (to - middle) ≡ to - from = omega (arith, first, second) in
    ap (λ k. parts_after own trees p from (middle - from) ++ parts_after own trees p k (to - middle)) at
    ∙ parts-append own trees p (middle - from) (to - middle) from
    ∙ ap (parts_after own trees p from) sum
