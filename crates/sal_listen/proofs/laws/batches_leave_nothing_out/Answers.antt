use Rattle.sal_listen.proofs.Following.{parts-all}
use Rattle.sal_listen.proofs.laws.batches_leave_nothing_out.Goals as goal

pub returns : goal.returns
returns c own trees p k bs are = parts-all own trees p k bs are
