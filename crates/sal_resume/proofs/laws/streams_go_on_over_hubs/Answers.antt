use Rattle.sal_resume.proofs.OverEpochs.{go-on-over-hubs}
use Rattle.sal_resume.proofs.laws.streams_go_on_over_hubs.Goals as goal

pub returns : goal.returns
returns c = go-on-over-hubs
