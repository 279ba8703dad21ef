use Rattle.std.proofs.Common.{◌≡◌, Bool, subst}
use Rattle.std.specs.Prelude.{IfOk}
use Rattle.sal_schema_of_table.proofs.Doubles.{texts}
use Rattle.sal_schema_of_table.proofs.distinct.texts_differ.Goals as goal

pub returns : goal.returns
returns c = subst (λ (z : Bool). IfOk c.all_differ.result (λ b. b ≡ z)) (texts c.args.texts.now) c.all_differ.ensures
