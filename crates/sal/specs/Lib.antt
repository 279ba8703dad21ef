-- The definitions that the contracts of the calls cite, each file under its name here.
pub mod Modules
pub mod Opening
pub use Rattle.sal_broker.specs.Looks
pub use Rattle.sal_broker.specs.Seats
pub use Rattle.sal_broker.specs.Turns
pub use Rattle.sal_update.specs.Updates
pub use Rattle.sal_hub.specs.Answers
pub use Rattle.sal_hub.specs.Begins
pub use Rattle.sal_hub.specs.HubHistory
pub use Rattle.sal_hub.specs.Listeners
pub use Rattle.sal_hub.specs.Marks
pub use Rattle.sal_hub.specs.Openings
pub use Rattle.sal_hub.specs.Seen
pub use Rattle.sal_hub.specs.Serial
pub use Rattle.sal_hub.specs.Tokens
pub use Rattle.sal_hub.specs.Upgrades
pub use Rattle.sal_turn.specs.Entries
pub use Rattle.sal_turn.specs.Lists
pub use Rattle.sal_turn.specs.Views
pub use Rattle.sal_history.specs.History
pub use Rattle.sal_history.specs.World
pub use Rattle.sal_rules.specs.Refusals
pub use Rattle.sal_rules.specs.Writes
pub use Rattle.sal_schema.specs.Fitting
pub use Rattle.sal_schema.specs.Paths
pub use Rattle.sal_schema.specs.Versions
pub use Rattle.sal_rows.specs.Apply
pub use Rattle.sal_rows.specs.Patch
pub use Rattle.sal_types.specs.Reading
pub use Rattle.sal_draw_log.specs.Drawn as Pictures
pub use Rattle.sal_draw_log.specs.Words as PictureWords
pub use Rattle.sal_retell.specs.Told
pub use Rattle.sal_listen.specs.Mirrors
pub use Rattle.sal_build.specs.Readable
pub use Rattle.sal_build.specs.Versions as BuiltVersions
pub use Rattle.sal_module_table.specs.Build
pub use Rattle.sal_module_table.specs.Versions as NextVersions
pub use Rattle.sal_stmt.specs.Text
pub use Rattle.sal_json.specs.Patterns
pub use Rattle.sal_epoch.specs.Epochs
pub use Rattle.sal_epoch.specs.Mounts
pub use Rattle.sal_resume.specs.Committed
pub use Rattle.sal_resume.specs.Newest
pub use Rattle.sal_resume.specs.OverEpochs
pub use Rattle.sal_resume.specs.Resumed
pub use Rattle.sal_resume.specs.Streamed
pub use Rattle.sal_follow.specs.Exporting
pub use Rattle.sal_follow.specs.Fed
pub use Rattle.sal_follow.specs.Framed
pub use Rattle.sal_follow.specs.Laws as StreamLaws
pub use Rattle.sal_follow.specs.States as Followers
pub use Rattle.sal_follow.specs.Stream
pub use Rattle.sal_owner.specs.Answers as OwnerAnswers
pub use Rattle.sal_owner.specs.Laws as OwnerLaws
pub use Rattle.sal_owner.specs.Ownership
pub use Rattle.sal_owner.specs.Seats as OwnerSeats
pub use Rattle.sal_owner.specs.Turns as OwnerTurns
pub use Rattle.sal_feed.specs.Rule as Feeds
pub use Rattle.sal_feed.specs.Seats as FeedSeats
