use Rattle.std.proofs.Common.{◌≡◌, Bool, subst, ap, ◌∙◌}
use Rattle.std.specs.Prelude.{IfOk}
use Rattle.sal_schema_of_table.specs.Keys.{differ}
use Rattle.sal_schema_of_table.proofs.Named.{modules-differ}
use Rattle.sal_schema_of_table.proofs.names.modules_differ.Goals as goal

pub returns : goal.returns
returns c =
    let is = ap differ (c.deref.ensures.value ∙ (rw c.items.ensures at c.in_ok-keys.ensures)) ∙ modules-differ c.args.table.now in
    subst (λ (z : Bool). IfOk c.all_differ.result (λ b. b ≡ z)) is c.all_differ.ensures
