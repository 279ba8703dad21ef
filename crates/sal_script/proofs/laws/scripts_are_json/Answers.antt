use Rattle.sal_script.proofs.JsonRead.{scripts_are_json}
use Rattle.sal_script.proofs.laws.scripts_are_json.Goals as goal

pub returns : goal.returns
returns c = scripts_are_json
