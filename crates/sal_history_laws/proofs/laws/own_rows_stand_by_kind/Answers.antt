use Rattle.sal_history_laws.proofs.Owning.{own_rows_stand}
use Rattle.sal_history_laws.proofs.laws.own_rows_stand_by_kind.Goals as goal

pub returns : goal.returns
returns c = own_rows_stand
