-- The entry is the log's next, and the service has its call.
use Rattle.sal_rpc.specs.declared.call.RpcCall.TheVariants as rpcs
use Rattle.sal_rpc.specs.declared.call.RpcReply.TheVariants as replies
use Rattle.sal_hub.proofs.Routed.{entered_call, refused_call}
use Rattle.sal_hub.proofs.rpc_calls.answer.Goals as goal

pub returns-in-Ok-answer : goal.returns-in-Ok-answer
returns-in-Ok-answer c =
    let entered = entered_call c.requires.service c.enter_answer.new.journal c.answer.new.self c.args.answering.client (rpcs.Answer c.args.answering.id c.args.answering.output) c.in-Ok.ensures.log c.in-Ok.ensures.marks replies.Accepted c.requires.room c.in-Ok-answer.ensures in
    record { service = entered.service; answer = entered.answer }

pub returns-in-Err-answer : goal.returns-in-Err-answer
returns-in-Err-answer c =
    let refused = refused_call c.requires.service c.enter_answer.new.journal c.answer.new.self c.args.answering.client (rpcs.Answer c.args.answering.id c.args.answering.output) c.in-Ok.ensures.log c.in-Ok.ensures.marks c.in-Err-answer.fault c.rpc_fault.result c.rpc_fault.ensures c.requires.room c.in-Err-answer.ensures in
    record { service = refused.service; answer = refused.answer }
