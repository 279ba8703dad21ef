-- The entry is the log's next, and the service has its call.
use Rattle.std.proofs.Common.{ap, sym, subst}
use Rattle.sal_rpc.specs.declared.call.RpcCall.TheVariants as rpcs
use Rattle.sal_rpc.specs.declared.call.RpcReply.TheVariants as replies
use Rattle.sal_history.specs.declared.call.Call.TheVariants.{Invoke}
use Rattle.sal_history.specs.declared.reply.Reply.TheVariants.{CallMade}
use Rattle.sal_hub.specs.declared.call_id.CallId.{CallId}
use Rattle.sal_hub.specs.Answers.{Made}
use Rattle.sal_hub.specs.Current.{known_of}
use Rattle.sal_hub.specs.HubHistory.{entry_of}
use Rattle.sal_hub.proofs.Routed.{entered_call, failed_call, invoked}
use Rattle.sal_hub.proofs.rpc_calls.invoke.Goals as goal

pub returns-in-Ok-invoke : goal.returns-in-Ok-invoke
returns-in-Ok-invoke c =
    let known = known_of c.args.journal.now c.args.pipeline.now in
    let entered = entered_call c.requires.service c.enter_invoke.new.journal c.invoke.new.self c.args.ask.client (rpcs.Invoke c.args.ask.rpc c.args.ask.context c.args.ask.input) c.in-Ok.ensures.log c.in-Ok.ensures.marks (replies.CallMade c.in-Ok-invoke.number) c.requires.room c.in-Ok-invoke.ensures in
    record {
      service = entered.service;
      answer = subst (λ (id : CallId). Made known (known_of c.enter_invoke.new.journal c.args.pipeline.now) (entry_of known c.args.ask.client (Invoke c.args.ask.rpc c.args.ask.context c.args.ask.input)) (CallMade id.number)) (sym c.of.ensures) entered.answer;
      given = invoked c.requires.service c.enter_invoke.new.journal c.invoke.new.self c.args.ask.client c.args.ask.rpc c.args.ask.context c.args.ask.input c.in-Ok.ensures.log c.in-Ok.ensures.marks c.in-Ok-invoke.number c.in-Ok-invoke.ensures c.of.result c.of.ensures;
      rpc = ap (λ (id : CallId). id.rpc) c.of.ensures;
    }

pub returns-in-Err-invoke : goal.returns-in-Err-invoke
returns-in-Err-invoke c =
    let failed = failed_call c.requires.service c.enter_invoke.new.journal c.invoke.new.self c.args.ask.client (rpcs.Invoke c.args.ask.rpc c.args.ask.context c.args.ask.input) c.in-Ok.ensures.log c.in-Ok.ensures.marks c.in-Ok.ensures.undo c.in-Err-invoke.fault c.failed.result c.failed.ensures.fault c.failed.new.journal c.failed.ensures.journal c.requires.room c.in-Err-invoke.ensures in
    record { service = failed.service; answer = failed.answer; given = tt; rpc = tt }
