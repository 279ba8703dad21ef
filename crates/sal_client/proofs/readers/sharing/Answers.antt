-- No pattern of an older version is malformed, as none of the later one is.
use Rattle.std.proofs.Common.{rules}
use Rattle.sal_client.proofs.Compiled.{older_formed}
use Rattle.sal_client.proofs.readers.sharing.Goals as goal

pub returns-in-Ok-Some-clause-formed : goal.returns-in-Ok-Some-clause-formed
returns-in-Ok-Some-clause-formed c = older_formed c.args.later.now c.args.schema.now.value (search rules) c.requires
