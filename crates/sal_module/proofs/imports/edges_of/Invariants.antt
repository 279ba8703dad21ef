use Rattle.std.proofs.Common.{◌≡◌, take, map}
use Rattle.sal_module.specs.Imports.{imported_modules, imports_of, plain}
use Rattle.sal_module.proofs.imports.edges_of.Given as goal

abbrev pub invariant-loop-stmt : goal.invariant-loop-stmt
invariant-loop-stmt l = plain l.edges.items ≡ map (λ stmt. imported_modules l.stmts (imports_of stmt)) (take l.stmt-index l.stmts)
