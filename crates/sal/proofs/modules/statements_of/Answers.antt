use Rattle.std.proofs.Common.{◌+◌, List, subst, sym, take}
use Rattle.sal_stmt.specs.declared.stmt.Stmt.{Stmt}
use Rattle.sal.specs.Modules.{AreRead, IsUnreadAmong, texts_in}
use Rattle.sal.proofs.Texts.{first_unread, one_more, passed_on, short_one}
use Rattle.sal.proofs.modules.statements_of.Goals as goal

pub statement_of-requires : goal.statement_of-requires
statement_of-requires c = short_one c.args.texts.now c.loop-module.module _ c.loop-module-test.true c.requires

pub loop-module-preserved : goal.loop-module-preserved
loop-module-preserved c =
    let l = c.loop-module in
    subst (λ (stmts : List Stmt). AreRead (take (l.module + 1) (texts_in c.args.texts.now)) stmts) (sym c.in_ok-push.ensures.items)
    (one_more c.args.texts.now l.module _ l.stmts.items c.in_ok-stmt.stmt c.loop-module-test.true l.invariant c.in_ok-stmt.ensures.read)

pub returns-in_err-stmt-clause-fault : goal.returns-in_err-stmt-clause-fault
returns-in_err-stmt-clause-fault c =
    let l = c.loop-module in
    let found = c.in_err-stmt.field-0.0 in
    passed_on (IsUnreadAmong (texts_in c.args.texts.now)) _ found c.from_residual-in_err-stmt.ensures.1
    (first_unread c.args.texts.now l.module _ l.stmts.items found c.loop-module-test.true l.invariant c.in_err-stmt.ensures.fault)
