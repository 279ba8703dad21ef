-- The text is computed.
use Rattle.std.proofs.Common.{refl}
use Rattle.std.specs.Fmt.{digits}
use Rattle.std.specs.Str.{chars, is_utf8}
use Rattle.std.specs.Str.Lossy.{utf8_valid_len}
use Rattle.json.specs.Print.{escape_byte}
use Rattle.serde_json.proofs.OnLiterals.{serde_json_on_literals}
use Rattle.sal_owner_script.proofs.examples.twice.Goals as goal

pub returns : goal.returns
unfolding digits escape_byte serde_json_on_literals utf8_valid_len is_utf8 chars
returns c = refl
