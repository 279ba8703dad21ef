use Rattle.sal_follow.proofs.Places.{places}
use Rattle.sal_follow.proofs.laws.places_count_bytes.Goals as goal

pub returns : goal.returns
returns c = places
