-- A stream of frames that continues over epochs.
use Rattle.std.specs.Prelude.{◌≡◌, ℕ, ◌+◌, ◌<◌, List, [], ◌∷◌, ◌++◌, length}
use Rattle.sal_rows.specs.declared.clash.Rules.{Rules}
use Rattle.sal_schema.specs.declared.table.SchemaTable.{SchemaTable}
use Rattle.sal_history.specs.declared.call.Entry.{Entry}
use Rattle.sal_hub.specs.Epochs.{next_world}
use Rattle.sal_hub.specs.HubHistory.{HubHistory}
use Rattle.sal_follow.specs.Framed.{Trees, bytes_of, streamed, frames_on}
use Rattle.sal_resume.specs.Committed.{committed, trees_by}
use Rattle.sal_resume.specs.Newest.{newest}

-- the hub of the next epoch, after these calls
abbrev pub next_after : Rules → HubHistory → List Entry → HubHistory
next_after rules known log = record { world = next_world rules known; log = log }

-- A stream, from whatever number on, ends with the newest trees of a hub: it has the frames of these trees of domain n, which may be those of many epochs. The frames of
-- the next hub from its commit 1 on, with the next numbers, make it the frames of these trees and those of the next hub, each once. The opening
-- of the next hub has no frame, as it is the last of the trees before.
abbrev pub StreamsGoOnOverEpochs : Type 0
StreamsGoOnOverEpochs =
    (table : SchemaTable) (rules : Rules) (known : HubHistory) (log : List Entry) (n first : ℕ) (trees : List Trees) → n < length known.world
    → streamed table first (trees ++ newest known n ∷ []) ++ bytes_of table (frames_on (committed (next_after rules known log) n) 1 (first + length trees + 1)) ≡ streamed table first (trees ++ committed (next_after rules known log) n)

-- A stream, from whatever number on, ends with the trees with which domain n of a hub opens, such as those of a follower that became this hub: it
-- has the frames of these trees. The frames of the hub from its commit 1 on, with the next numbers, make it the frames of these trees and those of
-- the hub, each once.
abbrev pub StreamsGoOnOverHubs : Type 0
StreamsGoOnOverHubs =
    (table : SchemaTable) (known : HubHistory) (n first : ℕ) (trees : List Trees)
    → streamed table first (trees ++ trees_by known n 0 ∷ []) ++ bytes_of table (frames_on (committed known n) 1 (first + length trees + 1)) ≡ streamed table first (trees ++ committed known n)
