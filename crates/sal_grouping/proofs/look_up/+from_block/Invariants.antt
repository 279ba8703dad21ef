use Rattle.sal_grouping.proofs.look_up.+from_block.Given as goal

abbrev pub decreases-from_block : goal.decreases-from_block
decreases-from_block l = l.levels
