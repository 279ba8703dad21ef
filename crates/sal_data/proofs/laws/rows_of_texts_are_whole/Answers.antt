use Rattle.sal_json_laws.proofs.Given.{texts_read_as_json}
use Rattle.sal_data.proofs.ReadWhole.{reads_whole}
use Rattle.sal_data.proofs.TreeParts.{reads_again}
use Rattle.sal_data.proofs.laws.rows_of_texts_are_whole.Goals as goal

pub returns-clause-whole : goal.returns-clause-whole
returns-clause-whole c table good path fits short text utf8 json is = reads_whole table good path fits short json (texts_read_as_json text utf8 json is)

pub returns-clause-again : goal.returns-clause-again
returns-clause-again c table good path fits short text utf8 json is = reads_again table good path fits short json (texts_read_as_json text utf8 json is)
