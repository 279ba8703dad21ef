-- The bytes before, and then those of the piece.
use Rattle.std.proofs.Common.{length}
use Rattle.sal.proofs.Counted.{has_room, more_fed}
use Rattle.examples_sal.proofs.epochs.standby.feed_behind.Goals as goal

pub feed-requires : goal.feed-requires
feed-requires c = has_room c.places_count_bytes.ensures c.args.before c.args.follower.now (length c.args.piece.now) c.requires.fed c.requires.few

pub returns-in-Ok : goal.returns-in-Ok
returns-in-Ok c = more_fed c.args.before c.args.follower.now c.feed.new.self c.args.piece.now _ c.requires.fed c.in-Ok.ensures.taken

pub returns-in-Err : goal.returns-in-Err
returns-in-Err c = more_fed c.args.before c.args.follower.now c.feed.new.self c.args.piece.now _ c.requires.fed c.in-Err.ensures.taken
