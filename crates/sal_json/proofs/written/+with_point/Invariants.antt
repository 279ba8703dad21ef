use Rattle.sal_json.proofs.written.+with_point.Given as goal

abbrev pub decreases-with_point : goal.decreases-with_point
decreases-with_point l = l.digits
