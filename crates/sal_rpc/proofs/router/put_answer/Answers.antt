use Rattle.std.proofs.Common.{◌<◌, length, arith, inl, inr}
use Rattle.sal_rpc.specs.Routes.{answered}
use Rattle.sal_rpc.proofs.Sending.{sent-past, sent-set}
use Rattle.std.proofs.Common.{sym}
use Rattle.sal_rpc.proofs.router.put_answer.Goals as goal
use Rattle.sal_rpc.proofs.router.put_answer.Goals.{then-id-eq0-via-then-id-eq0, then-id-eq0-via-else-id-eq0+then-id-len}

pub returns-then-id-eq0 : goal.returns-then-id-eq0
returns-then-id-eq0 c = sym (sent-past (answered c.args.output) c.args.requests.now.items c.args.id (elim c.then-id-eq0.branch [
  | then-id-eq0-via-then-id-eq0 w ↦ inl w.if-id-eq0.true
  | then-id-eq0-via-else-id-eq0+then-id-len w ↦ inr (let past : length c.args.requests.now.items < c.args.id = omega (arith, w.len.ensures, w.if-id-len.true) in past)
]))

pub returns : goal.returns
returns c = sent-set (answered c.args.output) c.args.requests.now.items c.args.id c.index_mut.result.now (omega (arith, c.if-id-eq0.false)) (omega (arith, c.len.ensures, c.if-id-len.false)) c.index_mut.ensures.value
