-- The bytes before, and then those of the piece.
use Rattle.std.proofs.Common.{length}
use Rattle.sal_follow.proofs.Counted.{has_room, more_fed}
use Rattle.tests_cases.proofs.checks.follower.feed.Goals as goal

pub feed-requires : goal.feed-requires
feed-requires c = has_room c.places_count_bytes.ensures c.args.before c.args.follower.now (length c.args.piece.now) c.requires.fed c.requires.few

pub returns : goal.returns
returns c = more_fed c.args.before c.args.follower.now c.feed.new.self c.args.piece.now c.feed.result c.requires.fed c.feed.ensures.taken
