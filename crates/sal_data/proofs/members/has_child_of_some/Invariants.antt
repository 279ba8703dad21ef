-- None of the modules so far has a child of this name.
use Rattle.std.proofs.Common.{◌≡◌, Some, drop}
use Rattle.std.specs.Prelude.{is_some}
use Rattle.std.specs.List.{list_any}
use Rattle.sal_schema.specs.Names.{child_of}
use Rattle.sal_data.proofs.members.has_child_of_some.Given as goal

abbrev pub invariant-loop-module : goal.invariant-loop-module
invariant-loop-module l =
    list_any (λ m. is_some (child_of l.schema (Some l.node) m l.name)) l.schema.modules ≡ list_any (λ m. is_some (child_of l.schema (Some l.node) m l.name)) (drop l.module l.schema.modules)
