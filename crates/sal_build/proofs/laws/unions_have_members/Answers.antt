use Rattle.sal_build.proofs.UnionMembers.{unions_have_members}
use Rattle.sal_build.proofs.laws.unions_have_members.Goals as goal

pub returns : goal.returns
returns c = unions_have_members
