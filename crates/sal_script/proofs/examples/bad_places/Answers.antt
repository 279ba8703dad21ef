-- The places are computed.
use Rattle.std.proofs.Common.{refl}
use Rattle.std.specs.Fmt.{digits}
use Rattle.std.specs.Str.{chars, is_utf8}
use Rattle.std.specs.Str.Lossy.{utf8_valid_len}
use Rattle.serde_json.proofs.OnLiterals.{serde_json_on_literals}
use Rattle.sal_script.proofs.examples.bad_places.Goals as goal

pub returns : goal.returns
unfolding serde_json_on_literals utf8_valid_len is_utf8 chars digits
returns c = record { json = refl; script = refl; unknown = refl; modules = refl; step = refl; config = refl }
