use Rattle.sal_check.proofs.NearRows.{breaks, too_many, repeats}
use Rattle.sal_check.proofs.laws.rules_break_near_changes.Goals as goal

pub returns : goal.returns
returns c = record { place = breaks; too_many = too_many; repeats = repeats }
