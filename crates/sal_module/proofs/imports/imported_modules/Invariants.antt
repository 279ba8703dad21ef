use Rattle.std.proofs.Common.{◌≡◌, take, filter}
use Rattle.sal_module.specs.declared.keyword.Keyword.TheVariants as word
use Rattle.sal_module.specs.Statements.{is_named, subs_of}
use Rattle.sal_module.specs.Imports.{imported_modules}
use Rattle.sal_module.proofs.imports.imported_modules.Given as goal

abbrev pub invariant-loop-sub : goal.invariant-loop-sub
invariant-loop-sub l = l.out.items ≡ imported_modules l.stmts (filter (is_named word.Import) (take l.sub-index (subs_of l.stmt)))
