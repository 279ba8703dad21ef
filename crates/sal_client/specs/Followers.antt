-- The listeners of a client, and their mirrors.
use Rattle.std.specs.Prelude.{◌≡◌, ℕ, ◌<◌, ◌≤◌, length, Option}
use Rattle.std.specs.Option.{option_map}
use Rattle.sal_types.specs.Tree.{under, IsAscending}
use Rattle.sal_rows.specs.declared.batch.Batch.{Batch}
use Rattle.sal_history.specs.Listeners.{version}
use Rattle.sal_history.specs.History.{commits, history, trees_at}
use Rattle.sal_listen.specs.Mirrors.{CarriesOn}
use Rattle.sal_script.specs.Play.{Listener}
use Rattle.sal_hub.specs.HubHistory.{HubHistory}
use Rattle.sal_hub.specs.Listeners.{IsMade}
use Rattle.sal_client.specs.declared.follower.Follower.{Follower}

-- a listener in the definitions' form
abbrev pub listener_of : Follower → Listener
listener_of f = record { id = f.id.number; domain = f.id.domain; store = f.store; path = f.path; version = f.mirror.version }

-- the rows are those that were committed at and below the listener's path, at the version of its last batch
pub record Follows (known : HubHistory) (f : Follower) : Type 0 where
  pub reached : f.mirror.version ≤ length (commits (history known.world known.log) f.id.domain)
  pub rows : f.mirror.rows ≡ under (trees_at known.world (history known.world known.log) f.id.domain f.store f.mirror.version) f.path

-- the log made the listener for the client of this number, and this is its version
pub record IsOwnListener (known : HubHistory) (number : ℕ) (f : Follower) : Type 0 where
  pub low : 0 < f.id.number
  pub made : IsMade known f.id (record { client = number; domain = f.id.domain; store = f.store; path = f.path })
  pub version : version (history known.world known.log) f.id.number ≡ f.mirror.version

-- the rows are at the end of a batch
pub record Advances (batch : Batch) (old new : Follower) : Type 0 where
  pub id : new.id ≡ old.id
  pub store : new.store ≡ old.store
  pub path : new.path ≡ old.path
  pub version : new.mirror.version ≡ batch.to
  pub ascending : IsAscending old.mirror.rows
  pub rows : CarriesOn batch old.mirror.rows new.mirror.rows
