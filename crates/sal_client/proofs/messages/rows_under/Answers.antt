-- The data of a message are those of the controller's own domain.
use Rattle.std.proofs.Common.{ap, ◌∙◌, subst}
use Rattle.serde_json.specs.View.{view}
use Rattle.sal_data.specs.Read.{read_data}
use Rattle.sal_script.specs.Messages.{message_at}
use Rattle.sal_client.specs.Faults.{Reads}
use Rattle.sal_client.specs.Operations.{good_data}
use Rattle.sal_client.proofs.Reading.{own_data}
use Rattle.sal_client.proofs.messages.rows_under.Goals as goal

pub returns : goal.returns
returns c =
    let value = view c.args.value.now in
    subst (Reads c.rows_of.result) (ap (λ path. good_data 0 (read_data c.args.reader.now path value)) c.in_ok-path.ensures ∙ own_data (read_data c.args.reader.now (message_at c.args.node) value)) c.rows_of.ensures
