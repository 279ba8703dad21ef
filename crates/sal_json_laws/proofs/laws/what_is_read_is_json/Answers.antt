use Rattle.sal_json_laws.proofs.Given.{reads_as_json, texts_are_bytes, texts_read_as_json}
use Rattle.sal_json_laws.proofs.laws.what_is_read_is_json.Goals as goal

pub returns-clause-bytes : goal.returns-clause-bytes
returns-clause-bytes c = reads_as_json

pub returns-clause-utf8 : goal.returns-clause-utf8
returns-clause-utf8 c = texts_are_bytes

pub returns-clause-texts : goal.returns-clause-texts
returns-clause-texts c = texts_read_as_json
