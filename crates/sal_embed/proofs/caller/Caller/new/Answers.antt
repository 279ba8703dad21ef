-- The run is at the beginning of its program.
use Rattle.std.proofs.Common.{refl}
use Rattle.sal_embed.proofs.caller.Caller.new.Goals as goal

pub returns : goal.returns
returns c = record {
  number = refl;
  run = (c.new.ensures.number, c.new.ensures.client, c.new.ensures.sound);
  lines = c.new-2.ensures.bytes;
  told = refl;
}
