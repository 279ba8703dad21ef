use Rattle.std.proofs.Common.{◌≡◌, Bool, subst}
use Rattle.std.specs.Prelude.{IfOk}
use Rattle.sal_schema_of_table.proofs.Doubles.{numbers}
use Rattle.sal_schema_of_table.proofs.distinct.numbers_differ.Goals as goal

pub returns : goal.returns
returns c = subst (λ (z : Bool). IfOk c.all_differ.result (λ b. b ≡ z)) (numbers c.args.numbers.now) c.all_differ.ensures
