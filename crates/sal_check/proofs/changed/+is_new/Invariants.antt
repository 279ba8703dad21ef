use Rattle.std.specs.Prelude.{length}
use Rattle.sal_check.proofs.changed.+is_new.Given as goal

abbrev pub decreases-is_new : goal.decreases-is_new
decreases-is_new l = length l.stamps.now
