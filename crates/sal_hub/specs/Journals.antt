-- The log, with its look-ups.
use Rattle.std.specs.Prelude.{◌≡◌, ℕ, Bool, false, List, [], ◌∷◌, ◌++◌, ◌-◌, length, slice_index_or, take}
use Rattle.std.specs.BTreeMap.{BTreeMap}
use Rattle.sal_history.specs.declared.call.Call.{Call}
use Rattle.sal_history.specs.declared.call.Entry.{Entry}
use Rattle.sal_history.specs.History.{entries_of}
use Rattle.sal_types.specs.Counts.{count_in}

-- how a contract sees it: the log, and a flag for each of its indexes
pub record Noted : Type 0 where
  pub log : List Entry
  pub marks : List Bool

-- the flag at an index, none after the list
abbrev pub mark_at : List Bool → ℕ → Bool
mark_at marks place = slice_index_or marks place false

-- the counts are the log's, and there is a flag for each of its indexes
pub record IsNoted (log : List Entry) (marks : List Bool) (counts : BTreeMap ℕ ℕ) : Type 0 where
  pub long : length marks ≡ length log
  pub counted : (client : ℕ) → count_in counts client ≡ entries_of log client

-- the log with one more entry of the client
abbrev pub jotted : List Entry → ℕ → Call → List Entry
jotted log client call = log ++ record { client = client; number = entries_of log client; call = call } ∷ []

-- the journal without its last entry
abbrev pub taken_back : Noted → Noted
taken_back j = record { log = take (length j.log - 1) j.log; marks = take (length j.log - 1) j.marks }
