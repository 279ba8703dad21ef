-- What is read is computed.
use Rattle.std.proofs.Common.{refl}
use Rattle.std.specs.Fmt.{digits}
use Rattle.std.specs.Str.{chars, is_utf8}
use Rattle.std.specs.Str.Lossy.{utf8_valid_len}
use Rattle.serde_json.proofs.OnLiterals.{serde_json_on_literals}
use Rattle.sal_script.proofs.service_examples.devices_read.Goals as goal

pub returns : goal.returns
unfolding digits serde_json_on_literals utf8_valid_len is_utf8 chars
returns c = record { two = refl; no_array = refl; no_modules = refl; no_text = refl; no_object = refl; unknown = refl; behind_its_own = refl }
