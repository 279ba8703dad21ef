-- The script and the report are computed.
use Rattle.std.proofs.Common.{refl}
use Rattle.std.specs.Fmt.{digits}
use Rattle.json.specs.Print.{escape_byte}
use Rattle.std.specs.Str.{chars, is_utf8}
use Rattle.std.specs.Str.Lossy.{utf8_valid_len}
use Rattle.serde_json.proofs.OnLiterals.{serde_json_on_literals}
use Rattle.sal_data.specs.Written.{node_json, runs_of}
use Rattle.sal_script.proofs.examples.empty_script.Goals as goal

pub returns-clause-read : goal.returns-clause-read
unfolding serde_json_on_literals utf8_valid_len is_utf8 chars
returns-clause-read c = refl

pub returns-clause-report : goal.returns-clause-report
unfolding digits escape_byte node_json runs_of
returns-clause-report c = refl
