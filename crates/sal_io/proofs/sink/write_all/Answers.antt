use Rattle.std.proofs.Common.{arith}
use Rattle.std.proofs.lemmas.Grind.{common_steps}
use Rattle.sal_io.proofs.Transfers.{TakesFront-more}
use Rattle.sal_io.proofs.sink.write_all.Goals as goal

pub loop-rest-preserved : goal.loop-rest-preserved
loop-rest-preserved g c = record {
  sent = TakesFront-more _ _ _ _ _ _ c.in_ok-count.count (grind (arith, common_steps)) c.loop-rest.invariant.sent c.in_ok-count.ensures.bytes;
  later = omega (arith, c.loop-rest.invariant.later, c.write.ensures.cause.later);
}
