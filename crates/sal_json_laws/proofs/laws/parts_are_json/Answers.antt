use Rattle.sal_json_laws.proofs.Parts.{members_are_json, elements_are_json}
use Rattle.sal_json_laws.proofs.laws.parts_are_json.Goals as goal

pub returns-clause-members : goal.returns-clause-members
returns-clause-members c = members_are_json

pub returns-clause-elements : goal.returns-clause-elements
returns-clause-elements c = elements_are_json
