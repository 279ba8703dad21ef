use Rattle.sal_rpc.proofs.First.{handed-once, handed-to-owner}
use Rattle.sal_rpc.proofs.laws.requests_are_handed_out_once.Goals as goal

pub returns-clause-once : goal.returns-clause-once
returns-clause-once c = handed-once

pub returns-clause-owner : goal.returns-clause-owner
returns-clause-owner c = handed-to-owner
