use Rattle.std.proofs.Common.{◌≡◌, ◌+◌, ◌∙◌, ap, sym, refl, arith, true, false, drop}
use Rattle.std.proofs.lemmas.Grind.{common_steps}
use Rattle.std.proofs.lemmas.Bool.Decides.{nat_tests}
use Rattle.std.proofs.lemmas.List.Sums.{fold-append}
use Rattle.sal_module.specs.declared.keyword.Keyword.TheVariants as word
use Rattle.sal_module.specs.Faults.{least, better}
use Rattle.sal_module.specs.Statements.{is_named}
use Rattle.sal_module.specs.LeftOut.{bit_faults, implied_faults, next_position, stated}
use Rattle.sal_module.proofs.LeftOuts.{bit_faults-at, bit_faults-none, implied_faults-capped, next_position-capped}
use Rattle.sal_module.proofs.left_out.with_bits.Goals as goal

pub loop-sub-init : goal.loop-sub-init
loop-sub-init c = (0, refl, refl)

pub loop-sub-preserved-then-not-is_named : goal.loop-sub-preserved-then-not-is_named
loop-sub-preserved-then-not-is_named c =
    let (n, capped, same) = c.loop-sub.invariant in
    let m = c.args.number in
    let sub = c.sub-item.result in
    let step = bit_faults-at m n c.args.subs.now c.loop-sub.sub-index sub (omega arith) in
    let other : is_named word.Bit sub ≡ false = grind (arith, nat_tests) in
    let here = rw (← c.sub-item.is, other) at step in
    (n, capped, same ∙ ap (least c.loop-sub.best) here)

pub loop-sub-preserved : goal.loop-sub-preserved
loop-sub-preserved c =
    let (n, capped, same) = c.loop-sub.invariant in
    let m = c.args.number in
    let sub = c.sub-item.result in
    let step = bit_faults-at m n c.args.subs.now c.loop-sub.sub-index sub (omega arith) in
    let bit : is_named word.Bit sub ≡ true = grind (arith, nat_tests) in
    let here = rw (← c.sub-item.is, bit) at step in
    let rest = bit_faults m (next_position n (stated sub)) (drop (c.loop-sub.sub-index + 1) c.args.subs.now) in
    let one = rw (capped, implied_faults-capped m n sub) at c.with_implied-best.ensures in
    let next = rw (capped, c.stated.ensures, next_position-capped n (stated sub)) at c.next_position-next.ensures.value in
    (next_position n (stated sub), next, same ∙ ap (least c.loop-sub.best) here ∙ fold-append better c.loop-sub.best (implied_faults m n sub) rest ∙ ap (λ best. least best rest) (sym one))

pub returns : goal.returns
returns c =
    let (n, capped, same) = c.loop-sub.invariant in
    let none = bit_faults-none c.args.number n in
    grind (arith, common_steps)
