use Rattle.sal_grouping.proofs.names.+home.Given as goal

abbrev pub decreases-home : goal.decreases-home
decreases-home l = l.levels
