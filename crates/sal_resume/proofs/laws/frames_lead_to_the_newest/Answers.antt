use Rattle.sal_resume.proofs.Leading.{lead-to-the-newest}
use Rattle.sal_resume.proofs.laws.frames_lead_to_the_newest.Goals as goal

pub returns : goal.returns
returns c = lead-to-the-newest
