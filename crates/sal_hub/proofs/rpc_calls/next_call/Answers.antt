-- The entry is the log's next, and the service has its call.
use Rattle.std.proofs.Common.{subst}
use Rattle.sal_rpc.specs.declared.call.RpcCall.TheVariants as rpcs
use Rattle.sal_rpc.specs.Routes.{next_reply}
use Rattle.sal_history.specs.declared.call.Call.TheVariants.{NextCall}
use Rattle.sal_hub.specs.Answers.{Made}
use Rattle.sal_hub.specs.Current.{known_of}
use Rattle.sal_hub.specs.HubHistory.{entry_of}
use Rattle.sal_hub.proofs.Routed.{entered_call, next_reply_is}
use Rattle.sal_hub.proofs.rpc_calls.next_call.Goals as goal

pub returns : goal.returns
returns c =
    let known = known_of c.args.journal.now c.args.pipeline.now in
    let entered = entered_call c.requires.service c.add.new.self c.next_call-request.new.self c.args.client rpcs.NextCall c.in-Ok.ensures.log c.in-Ok.ensures.marks (next_reply c.next_call-request.result) c.requires.room c.next_call-request.ensures in
    record { service = entered.service; answer = subst (Made known (known_of c.add.new.self c.args.pipeline.now) (entry_of known c.args.client NextCall)) (next_reply_is c.next_call-request.result) entered.answer }
