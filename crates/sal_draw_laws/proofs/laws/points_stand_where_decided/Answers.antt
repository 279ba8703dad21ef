use Rattle.sal_draw_laws.proofs.Points.{of_entry}
use Rattle.sal_draw_laws.proofs.laws.points_stand_where_decided.Goals as goal

pub returns : goal.returns
returns c = of_entry
