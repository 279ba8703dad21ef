-- What is read is computed.
use Rattle.std.proofs.Common.{refl}
use Rattle.std.specs.Fmt.{digits}
use Rattle.std.specs.Str.{chars, is_utf8}
use Rattle.std.specs.Str.Lossy.{utf8_valid_len}
use Rattle.serde_json.proofs.OnLiterals.{serde_json_on_literals}
use Rattle.sal_script.proofs.service_examples.service_steps_read.Goals as goal

pub returns : goal.returns
unfolding digits serde_json_on_literals utf8_valid_len is_utf8 chars
returns c = record { rpcs = refl; others = refl; context = refl; fewer = refl }
