use Rattle.std.proofs.Common.{ℕ, List, subst}
use Rattle.sal_follow.specs.States.{IsStepped}
use Rattle.sal_follow.proofs.follower.judged.Goals as goal

pub returns-in-Ok-clause-told : goal.returns-in-Ok-clause-told
returns-in-Ok-clause-told c = (
  c.in-Ok.used,
  subst (λ (bytes : List ℕ). IsStepped c.args.reader.now.schema.now c.args.state.now bytes c.stepped.new.state c.in-Ok.used) c.deref.ensures.value c.in-Ok.ensures.told,
  c.cut.ensures,
)
