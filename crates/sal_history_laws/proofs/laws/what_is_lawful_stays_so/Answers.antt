use Rattle.sal_history_laws.proofs.Versions.{closed_stays, lawful_stays, sents_stay_lawful}
use Rattle.sal_history_laws.proofs.laws.what_is_lawful_stays_so.Goals as goal

pub returns : goal.returns
returns c = record { lawful = lawful_stays; closed = closed_stays; sent = sents_stay_lawful }
