-- The replies are none.
use Rattle.std.proofs.Common.{refl}
use Rattle.sal_embed.proofs.caller.let_go.Goals as goal

pub returns : goal.returns
returns c = (c.clear.new.self, c.clear.ensures.items, refl)
