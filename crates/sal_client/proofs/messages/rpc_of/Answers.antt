-- The node of the name.
use Rattle.std.proofs.Common.{ap, ◌∙◌, subst}
use Rattle.sal_script.specs.Messages.{rpc_called}
use Rattle.sal_script.specs.Services.{if_known}
use Rattle.sal_client.specs.Faults.{Reads}
use Rattle.sal_client.proofs.messages.rpc_of.Goals as goal

pub returns : goal.returns
returns c = subst (Reads c.known.result) (ap if_known (c.rpc_called.ensures ∙ ap (rpc_called c.args.schema.now) c.as_str.ensures)) c.known.ensures
