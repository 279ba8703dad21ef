use Rattle.std.proofs.Common.{◌≡◌, ◌∙◌, ◌-◌, [], ◌∷◌, Ok, Err, ap, rules, arith, append-nil}
use Rattle.std.proofs.lemmas.Grind.{common_steps}
use Rattle.std.proofs.lemmas.Bool.Decides.{nat_tests}
use Rattle.sal_stmt.specs.declared.fault.StmtFault.TheVariants.{Unclosed}
use Rattle.sal_types.specs.Reading.{with_front}
use Rattle.sal_stmt.specs.Text.{statement, statements}
use Rattle.sal_stmt.proofs.Strings.{with_front-with_front}
use Rattle.sal_stmt.proofs.Statements.{statements_at, statements_here, statement_at}
use Rattle.sal_stmt.specs.declared.fault.StmtFault.TheVariants.{NoMemory}
use Rattle.sal_types.proofs.Readers.{gives_err}
use Rattle.sal_stmt.proofs.source.Source.+statements.Goals as goal

pub block-returns-in_err-here-clause-value : goal.block-returns-in_err-here-clause-value
block-returns-in_err-here-clause-value t c =
    let l = c.statements in
    let whole = c.args.self.now.text.now in
    let inner = statement whole c.args.levels in
    let (m, room, same) = l.invariant.2 in
    let step = statements_at whole inner c.args.start m l.rest.now (omega arith) in
    gives_err NoMemory _ _ c.in_err-here.field-0.0 _ c.from_residual-in_err-here.ensures.1 (λ known.
    let failed = c.in_err-here.ensures.value known in
    let done : statements whole inner c.args.start m l.rest.now ≡ Err c.in_err-here.field-0.0 = grind (arith, nat_tests, common_steps) in
    same ∙ ap (with_front l.subs.items) done)

pub block-returns-then-is_empty-clause-value : goal.block-returns-then-is_empty-clause-value
block-returns-then-is_empty-clause-value t c _ =
    let l = c.statements in
    let whole = c.args.self.now.text.now in
    let inner = statement whole c.args.levels in
    let (m, room, same) = l.invariant.2 in
    let turn = statements_here whole inner c.args.start m l.rest.now c.in_ok-here.here.now (omega arith) c.in_ok-here.ensures.value in
    let done : statements whole inner c.args.start m l.rest.now ≡ Err (Unclosed c.args.start) = grind (arith, nat_tests, common_steps) in
    same ∙ ap (with_front l.subs.items) done

pub block-returns-then-first-eq125-clause-value : goal.block-returns-then-first-eq125-clause-value
block-returns-then-first-eq125-clause-value t c =
    let l = c.statements in
    let whole = c.args.self.now.text.now in
    let inner = statement whole c.args.levels in
    let (m, room, same) = l.invariant.2 in
    let turn = statements_here whole inner c.args.start m l.rest.now c.in_ok-here.here.now (omega arith) c.in_ok-here.ensures.value in
    let done : statements whole inner c.args.start m l.rest.now ≡ Ok ([], c.tail.result.now) = grind (arith, nat_tests, common_steps) in
    same ∙ ap (with_front l.subs.items) done ∙ ap (λ all. Ok (all, c.tail.result.now)) (append-nil l.subs.items)

pub block-statements-preserved : goal.block-statements-preserved
block-statements-preserved t c =
    let l = c.statements in
    let whole = c.args.self.now.text.now in
    let inner = statement whole c.args.levels in
    let (m, room, same) = l.invariant.2 in
    let turn = statements_here whole inner c.args.start m l.rest.now c.in_ok-here.here.now (omega arith) c.in_ok-here.ensures.value in
    let after = c.in-Ok.after.now in
    let done : statements whole inner c.args.start m l.rest.now ≡ with_front (c.in-Ok.sub ∷ []) (statements whole inner c.args.start (m - 1) after) = grind (arith, nat_tests, common_steps, c.in-Ok.ensures.value) in (
      search rules,
      omega (arith, l.invariant.1, c.in_ok-here.ensures.within, c.in-Ok.ensures.shorter),
      (
        m - 1,
        omega (arith, room, c.in_ok-here.ensures.within, c.in-Ok.ensures.shorter),
        same ∙ ap (with_front l.subs.items) done ∙ with_front-with_front l.subs.items (c.in-Ok.sub ∷ []) (statements whole inner c.args.start (m - 1) after) ∙ ap (λ all. with_front all (statements whole inner c.args.start (m - 1) after)) (grind (arith, common_steps)),
      ),
    )

pub block-returns-in-Err-clause-value : goal.block-returns-in-Err-clause-value
block-returns-in-Err-clause-value t c known =
    let l = c.statements in
    let whole = c.args.self.now.text.now in
    let inner = statement whole c.args.levels in
    let (m, room, same) = l.invariant.2 in
    let turn = statements_here whole inner c.args.start m l.rest.now c.in_ok-here.here.now (omega arith) c.in_ok-here.ensures.value in
    let failed = c.in-Err.ensures.value known in
    let done : statements whole inner c.args.start m l.rest.now ≡ Err c.in-Err.fault = grind (arith, nat_tests, common_steps) in
    same ∙ ap (with_front l.subs.items) done

pub statement-returns-in_err-keyword-clause-value : goal.statement-returns-in_err-keyword-clause-value
statement-returns-in_err-keyword-clause-value t c =
    let whole = c.args.self.now.text.now in
    let step = statement_at whole c.args.levels c.args.s.now in
    gives_err NoMemory _ _ c.in_err-keyword.field-0.0 _ c.from_residual.ensures.1 (λ known.
    let failed = c.in_err-keyword.ensures.value known in
    grind (arith, nat_tests, common_steps))

pub statement-returns-then-first-eq59-clause-value : goal.statement-returns-then-first-eq59-clause-value
statement-returns-then-first-eq59-clause-value t c =
    let whole = c.args.self.now.text.now in
    let step = statement_at whole c.args.levels c.args.s.now in
    let turn = rw c.in_ok-keyword.ensures.value at step in
    grind (arith, nat_tests, common_steps)

pub statement-returns-then-levels-eq0-clause-value : goal.statement-returns-then-levels-eq0-clause-value
statement-returns-then-levels-eq0-clause-value t c _ =
    let whole = c.args.self.now.text.now in
    let step = statement_at whole c.args.levels c.args.s.now in
    let turn = rw c.in_ok-keyword.ensures.value at step in
    grind (arith, nat_tests, common_steps)

pub statement-tail-requires-2-clause-there : goal.statement-tail-requires-2-clause-there
statement-tail-requires-2-clause-there t c = grind (arith, nat_tests, common_steps, c.in_ok-keyword.ensures.end)

pub statement-tail-requires-2-clause-ascii : goal.statement-tail-requires-2-clause-ascii
statement-tail-requires-2-clause-ascii t c = grind (arith, nat_tests, common_steps, c.in_ok-keyword.ensures.end)

pub statement-returns-in-Ok-clause-value : goal.statement-returns-in-Ok-clause-value
statement-returns-in-Ok-clause-value t c =
    let whole = c.args.self.now.text.now in
    let step = statement_at whole c.args.levels c.args.s.now in
    let turn = rw c.in_ok-keyword.ensures.value at step in
    grind (arith, nat_tests, common_steps, c.in-Ok.ensures.value)

pub statement-returns-in-Err-clause-value : goal.statement-returns-in-Err-clause-value
statement-returns-in-Err-clause-value t c known =
    let whole = c.args.self.now.text.now in
    let step = statement_at whole c.args.levels c.args.s.now in
    let turn = rw c.in_ok-keyword.ensures.value at step in
    let failed = c.in-Err.ensures.value known in
    grind (arith, nat_tests, common_steps)
