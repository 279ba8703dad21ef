use Rattle.sal_build.proofs.ReadableTexts.{what_is_read_is_counted}
use Rattle.sal_build.proofs.laws.what_is_read_is_counted.Goals as goal

pub returns : goal.returns
returns c = what_is_read_is_counted
