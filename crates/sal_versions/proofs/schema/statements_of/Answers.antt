use Rattle.sal_versions.proofs.ReadTexts.{short_one}
use Rattle.sal_versions.proofs.Statements.{makes_err, text_fault}
use Rattle.sal_versions.proofs.schema.statements_of.Goals as goal

pub statement_of-requires : goal.statement_of-requires
statement_of-requires c = short_one c.args.texts.now c.loop-text.text-index c.text-item.result c.loop-text-test.true c.text-item.is c.requires.short

pub returns-in_err-stmt : goal.returns-in_err-stmt
returns-in_err-stmt c =
    let l = c.loop-text in
    let e = c.in_err-stmt.field-0.0 in
    makes_err _ _ e _ c.from_residual-in_err-stmt.ensures.1
    (text_fault c.args.texts.now l.stmts.items l.number l.text-index c.text-item.result c.loop-text-test.true c.text-item.is _ e c.in_err-stmt.ensures l.invariant.read)
