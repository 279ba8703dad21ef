use Rattle.std.proofs.Common.{◌≡◌, take, filter}
use Rattle.std.specs.List.{flat_map}
use Rattle.sal_module.specs.declared.keyword.Keyword.TheVariants as word
use Rattle.sal_module.specs.Faults.{least}
use Rattle.sal_module.specs.Statements.{is_named, subs_of}
use Rattle.sal_module.specs.Imports.{given_faults}
use Rattle.sal_module.proofs.imports.with_all_given.Given as goal

abbrev pub invariant-loop-sub : goal.invariant-loop-sub
invariant-loop-sub l =
    l.best ≡ least l.initial.best (flat_map (given_faults l.stmts l.number) (filter (is_named word.Import) (take l.sub-index (subs_of l.stmt))))
