-- The names so far.
use Rattle.std.proofs.Common.{◌≡◌, map, take}
use Rattle.sal_module.specs.Statements.{argument_of}
use Rattle.sal_module_table.proofs.schema.names_of.Given as goal

abbrev pub invariant-loop-stmt : goal.invariant-loop-stmt
invariant-loop-stmt l = l.names.items ≡ map argument_of (take l.stmt-index l.stmts)
