-- The report is computed.
use Rattle.std.proofs.Common.{refl}
use Rattle.std.specs.Fmt.{digits}
use Rattle.std.specs.Str.{chars}
use Rattle.json.specs.Print.{escape_byte}
use Rattle.sal_pathtext.specs.Words.{name, single, said}
use Rattle.sal_pathtext.specs.Read.{read_path, steps, one_more, named, entered, predicates, predicate, subject}
use Rattle.sal_data.specs.Written.{node_json, runs_of}
use Rattle.sal_script.proofs.listener_examples.refused_without_a_call.Goals as goal

pub returns : goal.returns
unfolding read_path steps one_more named entered predicates predicate subject name single said digits chars escape_byte node_json runs_of
returns c = refl
