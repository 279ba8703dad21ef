use Rattle.sal_listen.proofs.Following.{with-all}
use Rattle.sal_listen.proofs.laws.batches_carry_the_opening.Goals as goal

pub returns : goal.returns
returns c own trees p k bs h are = with-all own trees p k bs h are
