-- The report is computed.
use Rattle.std.proofs.Common.{refl}
use Rattle.std.specs.Fmt.{digits}
use Rattle.json.specs.Print.{escape_byte}
use Rattle.sal_data.specs.Written.{node_json, runs_of}
use Rattle.sal_script.proofs.chain_examples.a_closed_chain.Goals as goal

pub returns : goal.returns
unfolding digits escape_byte node_json runs_of
returns c = refl
