-- A reply waits, so one is written.
use Rattle.std.proofs.Common.{List, Option, ℕ, subst}
use Rattle.sal_prepare.specs.Scripted.{tables_in}
use Rattle.sal_embed.specs.Callers.{IsTold}
use Rattle.sal_embed.proofs.caller.Caller.finish.Goals as goal

pub returns-in-Ok-Some-clause-finished : goal.returns-in-Ok-Some-clause-finished
returns-in-Ok-Some-clause-finished c =
    subst (λ (o : Option (List ℕ)). IsTold (tables_in c.args.schemas.now) c.args.self.now o) c.in-Ok-Some.field-0-is c.in-Ok-Some.ensures.told

pub unreachable-requires : goal.unreachable-requires
unreachable-requires c =
    c.requires.waits (subst (λ (o : Option (List ℕ)). IsTold (tables_in c.args.schemas.now) c.args.self.now o) c.in-Ok-None.field-0-is c.in-Ok-None.ensures.told)
