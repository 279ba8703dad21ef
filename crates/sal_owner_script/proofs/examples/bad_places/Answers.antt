-- The places are computed.
use Rattle.std.proofs.Common.{refl}
use Rattle.std.specs.Fmt.{digits}
use Rattle.std.specs.Str.{chars, is_utf8}
use Rattle.std.specs.Str.Lossy.{utf8_valid_len}
use Rattle.serde_json.proofs.OnLiterals.{serde_json_on_literals}
use Rattle.sal_owner_script.proofs.examples.bad_places.Goals as goal

pub returns-clause-json : goal.returns-clause-json
unfolding digits serde_json_on_literals utf8_valid_len is_utf8 chars
returns-clause-json c = refl

pub returns-clause-array : goal.returns-clause-array
unfolding digits serde_json_on_literals utf8_valid_len is_utf8 chars
returns-clause-array c = refl

pub returns-clause-client : goal.returns-clause-client
unfolding digits serde_json_on_literals utf8_valid_len is_utf8 chars
returns-clause-client c = refl

pub returns-clause-word : goal.returns-clause-word
unfolding digits serde_json_on_literals utf8_valid_len is_utf8 chars
returns-clause-word c = refl

pub returns-clause-more : goal.returns-clause-more
unfolding digits serde_json_on_literals utf8_valid_len is_utf8 chars
returns-clause-more c = refl
