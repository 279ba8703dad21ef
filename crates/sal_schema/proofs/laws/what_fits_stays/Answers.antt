use Rattle.sal_schema.proofs.Stays.{paths_stay, rows_stay}
use Rattle.sal_schema.proofs.laws.what_fits_stays.Goals as goal

pub returns-clause-paths : goal.returns-clause-paths
returns-clause-paths c = paths_stay

pub returns-clause-rows : goal.returns-clause-rows
returns-clause-rows c = rows_stay
