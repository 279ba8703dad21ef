use Rattle.std.proofs.Common.{◌∙◌, ◌++◌, drop, string_bytes, ap, arith, append-nil}
use Rattle.std.proofs.lemmas.Grind.{common_steps}
use Rattle.std.proofs.lemmas.Bool.Decides.{nat_tests}
use Rattle.sal_pathtext.proofs.Texts.{keys-none}
use Rattle.sal_pathtext.proofs.write.push_keys.Goals as goal

pub returns-then-i-values : goal.returns-then-i-values
returns-then-i-values c =
    let l = c.loop-i in
    let keys = c.keys_at-keys.result.now in
    let none = keys-none c.args.schema.now c.args.node (drop l.i keys) c.args.values.now l.i (grind (arith, nat_tests, common_steps)) in
    let all = l.invariant ∙ ap (λ t. string_bytes l.out ++ t) none ∙ append-nil (string_bytes l.out) in
    grind (arith, common_steps)
