use Rattle.sal_script.proofs.CheckedLaws.{known_stays, looks_are_known, missed_parents_are_known, transactions_grow}
use Rattle.sal_script.proofs.laws.reads_are_known.Goals as goal

pub returns : goal.returns
returns c = record { looks = looks_are_known; parents = missed_parents_are_known; stays = known_stays; grow = transactions_grow }
