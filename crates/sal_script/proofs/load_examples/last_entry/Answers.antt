-- The path is computed.
use Rattle.std.proofs.Common.{refl}
use Rattle.std.specs.Fmt.{digits}
use Rattle.sal_script.proofs.load_examples.last_entry.Goals as goal

pub returns-clause-path : goal.returns-clause-path
unfolding digits
returns-clause-path c = refl
