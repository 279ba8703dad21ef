use Rattle.sal_json_laws.proofs.Tested.{tests_json}
use Rattle.sal_json_laws.proofs.laws.json_is_tested.Goals as goal

pub returns : goal.returns
returns c = tests_json
