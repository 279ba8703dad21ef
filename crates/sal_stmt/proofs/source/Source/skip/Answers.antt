use Rattle.std.proofs.Common.{◌-◌, rules, arith}
use Rattle.std.proofs.lemmas.Grind.{common_steps}
use Rattle.std.proofs.lemmas.Bool.Decides.{nat_tests}
use Rattle.sal_stmt.specs.Text.{separators}
use Rattle.sal_stmt.proofs.Separators.{separators_at}
use Rattle.sal_stmt.specs.declared.fault.StmtFault.TheVariants.{NoMemory}
use Rattle.sal_types.proofs.Readers.{gives_err, bind_err}
use Rattle.sal_stmt.proofs.source.Source.skip.Goals as goal

pub separators-preserved-then-is_blank : goal.separators-preserved-then-is_blank
separators-preserved-then-is_blank c =
    let l = c.separators in
    let (m, room, same) = l.invariant.2 in
    let step = separators_at c.args.self.now.text.now l.rest.now m room in
    (search rules, omega (arith, c.tail-rest.ensures.shorter), (m - 1, omega (arith, c.tail-rest.ensures.shorter), grind (arith, nat_tests, common_steps)))

pub separators-preserved-then-starts_with : goal.separators-preserved-then-starts_with
separators-preserved-then-starts_with c =
    let l = c.separators in
    let (m, room, same) = l.invariant.2 in
    let step = separators_at c.args.self.now.text.now l.rest.now m room in
    (search rules, omega (arith, c.in_ok-rest.ensures.within, c.tail.ensures.shorter), (m - 1, omega (arith, c.in_ok-rest.ensures.within, c.tail.ensures.shorter), grind (arith, nat_tests, common_steps, c.in_ok-rest.ensures.value)))

pub returns-in_err-rest-clause-value : goal.returns-in_err-rest-clause-value
returns-in_err-rest-clause-value c =
    let l = c.separators in
    let whole = c.args.self.now.text.now in
    let (m, room, same) = l.invariant.2 in
    let step = separators_at whole l.rest.now m room in
    gives_err NoMemory _ _ c.in_err-rest.field-0.0 _ c.from_residual.ensures.1 (λ known.
    let failed = bind_err _ (separators whole (m - 1)) _ (c.in_err-rest.ensures.value known) in
    grind (arith, nat_tests, common_steps))

pub returns-else-starts_with-2-clause-value : goal.returns-else-starts_with-2-clause-value
returns-else-starts_with-2-clause-value c =
    let l = c.separators in
    let (m, room, same) = l.invariant.2 in
    let step = separators_at c.args.self.now.text.now l.rest.now m room in
    grind (arith, nat_tests, common_steps)

pub separators-preserved : goal.separators-preserved
separators-preserved c =
    let l = c.separators in
    let (m, room, same) = l.invariant.2 in
    let step = separators_at c.args.self.now.text.now l.rest.now m room in
    (search rules, omega (arith, c.in_ok-rest-2.ensures.within, c.tail-then-starts_with-2.ensures.shorter), (m - 1, omega (arith, c.in_ok-rest-2.ensures.within, c.tail-then-starts_with-2.ensures.shorter), grind (arith, nat_tests, common_steps, c.in_ok-rest-2.ensures.value)))

pub returns-in_err-rest-2-clause-value : goal.returns-in_err-rest-2-clause-value
returns-in_err-rest-2-clause-value c =
    let l = c.separators in
    let whole = c.args.self.now.text.now in
    let (m, room, same) = l.invariant.2 in
    let step = separators_at whole l.rest.now m room in
    gives_err NoMemory _ _ c.in_err-rest-2.field-0.0 _ c.from_residual-in_err-rest-2.ensures.1 (λ known.
    let failed = bind_err _ (separators whole (m - 1)) _ (c.in_err-rest-2.ensures.value known) in
    grind (arith, nat_tests, common_steps))
