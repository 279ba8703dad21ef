use Rattle.sal_script_laws.proofs.Behind.{absent, no_list}
use Rattle.sal_script_laws.proofs.laws.entries_stand_alone.Goals as goal

pub returns-clause-entries : goal.returns-clause-entries
returns-clause-entries c = absent

pub returns-clause-list : goal.returns-clause-list
returns-clause-list c = no_list
