-- How a contract sees a hub: its domains with their opening trees, and the log of its calls.
use Rattle.std.specs.Prelude.{ℕ, List, [], ◌∷◌, ◌++◌}
use Rattle.sal_history.specs.World.{Domain}
use Rattle.sal_history.specs.declared.call.Call.{Call}
use Rattle.sal_history.specs.declared.call.Entry.{Entry}
use Rattle.sal_history.specs.History.{entries_of}

pub record HubHistory : Type 0 where
  pub world : List Domain
  pub log : List Entry

-- with one more entry
abbrev pub more : HubHistory → Entry → HubHistory
more known e = record { world = known.world; log = known.log ++ e ∷ [] }

-- the entry of a client's next call
abbrev pub entry_of : HubHistory → ℕ → Call → Entry
entry_of known client call = record { client = client; number = entries_of known.log client; call = call }
