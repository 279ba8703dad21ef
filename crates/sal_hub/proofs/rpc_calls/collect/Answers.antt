-- The entry is the log's next, and the service has its call.
use Rattle.std.proofs.Common.{ap, ◌∙◌, subst}
use Rattle.std.specs.Prelude.{unwrap_or}
use Rattle.sal_rpc.specs.Routing.{output}
use Rattle.sal_rpc.specs.declared.call.RpcCall.TheVariants as rpcs
use Rattle.sal_history.specs.declared.call.Call.TheVariants.{Collect}
use Rattle.sal_history.specs.History.{history}
use Rattle.sal_history.specs.Services.{rpc_of, rpc_reply}
use Rattle.sal_hub.specs.Answers.{Fails, Made}
use Rattle.sal_hub.specs.Current.{known_of}
use Rattle.sal_hub.specs.HubHistory.{entry_of}
use Rattle.sal_hub.specs.Routed.{collect_reply}
use Rattle.sal_hub.proofs.Routed.{collect_reply_is, entered_call, failed_call}
use Rattle.sal_hub.proofs.rpc_calls.collect.Goals as goal

pub returns-in-Ok-collect : goal.returns-in-Ok-collect
returns-in-Ok-collect c =
    let known = known_of c.args.journal.now c.args.pipeline.now in
    let known' = known_of c.add.new.self c.args.pipeline.now in
    let output_is = ap (λ n. rpc_reply (unwrap_or (rpc_of (history known.world known.log) n) 0) (output c.in-Ok-collect.output)) c.number-number.ensures ∙ collect_reply_is known c.args.id c.in-Ok-collect.output c.requires.token in
    let entered = entered_call c.requires.service c.add.new.self c.args.router.now c.args.client (rpcs.Collect c.number-number.result) c.in-Ok.ensures.log c.in-Ok.ensures.marks (output c.in-Ok-collect.output) c.requires.room c.in-Ok-collect.ensures in
    record {
      service = entered.service;
      answer = subst (λ n. Made known known' (entry_of known c.args.client (Collect n)) (collect_reply c.args.id.rpc c.in-Ok-collect.output)) c.number-number.ensures
          (subst (Made known known' (entry_of known c.args.client (Collect c.number-number.result))) output_is entered.answer);
    }

pub returns-in-Err-collect : goal.returns-in-Err-collect
returns-in-Err-collect c =
    let known = known_of c.args.journal.now c.args.pipeline.now in
    let known' = known_of c.failed.new.journal c.args.pipeline.now in
    let failed = failed_call c.requires.service c.add.new.self c.args.router.now c.args.client (rpcs.Collect c.number-number.result) c.in-Ok.ensures.log c.in-Ok.ensures.marks c.in-Ok.ensures.undo c.in-Err-collect.fault c.failed.result c.failed.ensures.fault c.failed.new.journal c.failed.ensures.journal c.requires.room c.in-Err-collect.ensures in
    record { service = failed.service; answer = subst (λ n. Fails known known' (entry_of known c.args.client (Collect n)) c.failed.result) c.number-number.ensures failed.answer }
