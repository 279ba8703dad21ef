use Rattle.sal_json.proofs.OfType.{json_of_type, key_of_type}
use Rattle.sal_json.proofs.laws.values_are_of_their_types.Goals as goal

pub returns-clause-json : goal.returns-clause-json
returns-clause-json c = json_of_type

pub returns-clause-key : goal.returns-clause-key
returns-clause-key c = key_of_type
