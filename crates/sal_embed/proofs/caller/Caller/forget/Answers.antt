-- The replies are dropped, if there is a run.
use Rattle.std.proofs.Common.{◌≡◌, Option, Some, refl, sym, subst}
use Rattle.sal_client.specs.declared.run.ClientRun.{ClientRun}
use Rattle.sal_embed.specs.Callers.{IsEmptied}
use Rattle.sal_embed.proofs.caller.Caller.forget.Goals as goal

pub returns : goal.returns
returns c = record {
  number = refl;
  lines = refl;
  told = refl;
  run = subst (λ (o : Option ClientRun). IsEmptied o (Some c.let_go.new.run)) (sym c.in-Some.is) c.let_go.ensures;
}
