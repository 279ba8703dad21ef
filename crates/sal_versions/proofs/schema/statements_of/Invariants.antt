use Rattle.std.proofs.Common.{◌≡◌, ◌+◌, drop}
use Rattle.sal_versions.specs.Schemas.{statements_from}
use Rattle.sal_versions.proofs.Statements.{before}
use Rattle.sal_versions.proofs.schema.statements_of.Given as goal

abbrev pub invariant-loop-text : goal.invariant-loop-text
invariant-loop-text l = record {
  counted : l.number ≡ l.first + l.text-index;
  read : before l.stmts.items (statements_from l.number (drop l.text-index l.texts)) ≡ statements_from l.first l.texts;
}
