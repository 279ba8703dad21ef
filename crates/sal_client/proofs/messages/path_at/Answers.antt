-- The path of the text.
use Rattle.std.proofs.Common.{ap, subst}
use Rattle.sal_script.specs.Services.{path_of}
use Rattle.sal_client.specs.Faults.{Reads}
use Rattle.sal_client.proofs.messages.path_at.Goals as goal

pub returns : goal.returns
returns c = subst (Reads c.path_of.result) (ap (path_of c.args.reader.now) c.as_str.ensures) c.path_of.ensures
