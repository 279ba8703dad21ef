-- The bytes before, and then those of the piece.
use Rattle.std.proofs.Common.{length}
use Rattle.sal_follow.proofs.Counted.{has_room, more_fed}
use Rattle.sal_cluster.proofs.beside.feed_behind.Goals as goal

pub feed-requires : goal.feed-requires
feed-requires c = has_room c.places_count_bytes.ensures c.args.fed c.args.follower.now (length c.args.piece.now) c.requires.counted c.requires.few

pub returns-in-Ok-clause-counted : goal.returns-in-Ok-clause-counted
returns-in-Ok-clause-counted c = more_fed c.args.fed c.args.follower.now c.feed.new.self c.args.piece.now _ c.requires.counted c.in-Ok.ensures.taken

pub returns-in-Err-clause-counted : goal.returns-in-Err-clause-counted
returns-in-Err-clause-counted c = more_fed c.args.fed c.args.follower.now c.feed.new.self c.args.piece.now _ c.requires.counted c.in-Err.ensures.taken
