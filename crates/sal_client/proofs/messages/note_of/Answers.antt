-- The node of the name.
use Rattle.std.proofs.Common.{ap, ◌∙◌, subst}
use Rattle.sal_script.specs.Messages.{note_called}
use Rattle.sal_script.specs.Services.{if_known}
use Rattle.sal_client.specs.Faults.{Reads}
use Rattle.sal_client.proofs.messages.note_of.Goals as goal

pub returns : goal.returns
returns c = subst (Reads c.known.result) (ap if_known (c.note_called.ensures ∙ ap (note_called c.args.schema.now) c.as_str.ensures)) c.known.ensures
