use Rattle.sal_check.proofs.NearTrees.{keeps-edit, keeps-Follows, keeps-graft, keeps-itself, keeps-composed}
use Rattle.sal_check.proofs.laws.what_was_made_keeps.Goals as goal

pub returns : goal.returns
returns c = record { edit = keeps-edit; commit = keeps-Follows; graft = keeps-graft; itself = keeps-itself; composed = keeps-composed }
