-- The entry is the log's next, and the service has its call.
use Rattle.sal_rpc.specs.declared.call.RpcReply.TheVariants as replies
use Rattle.sal_hub.specs.Routed.{registering}
use Rattle.sal_hub.proofs.Routed.{entered_call, failed_call}
use Rattle.sal_hub.proofs.rpc_calls.register.Goals as goal

pub returns-in-Ok-register_at : goal.returns-in-Ok-register_at
returns-in-Ok-register_at c =
    let asked = registering c.args.registration.begins c.args.registration.rpc c.args.registration.context in
    let entered = entered_call c.requires.service c.enter_registration.new.journal c.register_at.new.router c.args.registration.client asked c.in-Ok.ensures.log c.in-Ok.ensures.marks replies.Accepted c.requires.room c.in-Ok-register_at.ensures in
    record { service = entered.service; answer = entered.answer }

pub returns-in-Err-register_at : goal.returns-in-Err-register_at
returns-in-Err-register_at c =
    let asked = registering c.args.registration.begins c.args.registration.rpc c.args.registration.context in
    let failed = failed_call c.requires.service c.enter_registration.new.journal c.register_at.new.router c.args.registration.client asked c.in-Ok.ensures.log c.in-Ok.ensures.marks c.in-Ok.ensures.undo c.in-Err-register_at.fault c.failed.result c.failed.ensures.fault c.failed.new.journal c.failed.ensures.journal c.requires.room c.in-Err-register_at.ensures in
    record { service = failed.service; answer = failed.answer }
