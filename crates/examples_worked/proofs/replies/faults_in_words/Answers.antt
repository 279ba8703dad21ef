-- Each example by computation.
use Rattle.std.proofs.Common.{refl}
use Rattle.std.specs.Fmt.{digits}
use Rattle.std.specs.Str.{chars}
use Rattle.json.specs.Print.{escape_byte}
use Rattle.sal_schema.specs.Table.{closest}
use Rattle.sal_data.specs.Written.{scalar_json, node_json, runs_of}
use Rattle.examples_worked.proofs.replies.faults_in_words.Goals as goal

pub returns : goal.returns
unfolding closest digits chars escape_byte scalar_json node_json runs_of
returns c = record { path = refl; write = refl }
