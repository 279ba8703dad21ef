use Rattle.std.proofs.Common.{◌≡◌, ◌<◌, ℕ, true, false, get_or}
use Rattle.std.specs.List.{list_all}
use Rattle.sal_grouping.specs.Rows.{all_inside}
use Rattle.sal_grouping.specs.Plan.{is_bare}
use Rattle.sal_grouping.proofs.plan.are_bare.Given as goal

abbrev pub invariant-loop-g : goal.invariant-loop-g
invariant-loop-g l = (h : ℕ) → h < l.g → get_or l.bare h false ≡ true → list_all (is_bare l.rows l.named l.bare) (all_inside l.rows h) ≡ true
