-- A leader: a broker whose commits, of each domain, have numbers in a stream that goes on over epochs and brokers.
use Rattle.std.specs.Prelude.{◌≡◌, ℕ, ◌+◌, ◌-◌, ◌<◌, ◌≤◌, ◌^◌, List, length, min, nat_lt, Bool, true, false, Option, None, Some, MatchResult, Result, Ok, Err}
use Rattle.sal_schema.specs.declared.table.SchemaTable.{SchemaTable}
use Rattle.sal_history.specs.History.{history, pending}
use Rattle.sal_history.specs.Versions.{schema_version}
use Rattle.sal_history.specs.World.{rules_of}
use Rattle.sal_hub.specs.Epochs.{OpensAtTheNewest, next_hub}
use Rattle.sal_hub.specs.HubHistory.{HubHistory}
use Rattle.sal_follow.specs.declared.fault.ExportFault.{ExportFault}
use Rattle.sal_follow.specs.declared.fault.ExportFault.TheVariants as export
use Rattle.sal_follow.specs.Framed.{ExportsOn}
use Rattle.sal_resume.specs.Committed.{committed}
use Rattle.sal_script.specs.Tables.{last_in, versions_of}
use Rattle.sal_embed.specs.Opening.{IsBegun}
use Rattle.sal_cluster.specs.declared.bases.Bases.{Bases}
use Rattle.sal_cluster.specs.declared.fault.EpochFault.{EpochFault}
use Rattle.sal_cluster.specs.declared.fault.EpochFault.TheVariants.{NotNewest, Pending}
use Rattle.sal_cluster.specs.declared.fault.FramesFault.{FramesFault}
use Rattle.sal_cluster.specs.declared.fault.FramesFault.TheVariants.{Gone, TooLong, NoMemory}
use Rattle.sal_cluster.specs.declared.leader.Leader.{Leader}
pub use Rattle.sal_cluster.specs.Numbers.{are_newest, base_of, is_domain, number_of}

-- ---- versions

-- the present version of the schema of domain 0
abbrev pub version_of : HubHistory → ℕ
version_of known = schema_version (history known.world known.log)

-- the last version of the schema of domain n: frames are written by it, and a stand-by reads by it
abbrev pub table_sent : HubHistory → ℕ → SchemaTable
table_sent known n = last_in (versions_of known.world) n

-- a broker that begins its streams: each commit 0 has the number 0, by version 0
pub record IsFirst (it : Leader) : Type 0 where
  pub bases : (n : ℕ) → base_of it.bases n ≡ 0
  pub version : it.version ≡ 0

-- ---- frames

-- an export's result
abbrev pub as_frames : Result (List ℕ) ExportFault → Result (List ℕ) FramesFault
as_frames (Ok bytes) = Ok bytes
as_frames (Err (export.TooLong number)) = Err (TooLong number)
as_frames (Err export.NoMemory) = Err NoMemory

-- The frames of the commits of domain n with numbers above this one, by the last version of its schema; the broker does not keep those below its
-- commit 0, which has the number `base`.
abbrev pub Sends : HubHistory → ℕ → ℕ → ℕ → Result (List ℕ) FramesFault → Type 0
Sends known n base above (Err Gone) = above < base
Sends known n base above result =
    (base ≤ above) × ((told : Result (List ℕ) ExportFault) × ExportsOn (table_sent known n) (committed known n) (above + 1 - base) (above + 1) told × (result ≡ as_frames told))

-- ---- the next epoch

-- the present version of the schema of domain 0, as the script counts; the largest number if it has more than 32 bits
abbrev pub present : Leader → ℕ
present it = min (it.version + version_of it.broker.hub) (2 ^ 32 - 1)

-- The next epoch of a leader: its hub begins with the newest trees, under the version rules of domain 0, and each commit 0 has the number that the
-- newest commit of its domain had, the largest one if that has more than 64 bits. No step was made.
pub record IsNext (old new : Leader) : Type 0 where
  pub hub : new.broker.hub ≡ next_hub (rules_of old.broker.hub.world 0) old.broker.hub
  pub newest : OpensAtTheNewest old.broker.hub new.broker.hub.world
  pub bases : (n : ℕ) → n < length old.broker.hub.world → base_of new.bases n ≡ min (number_of old.broker.hub old.bases n) (2 ^ 64 - 1)
  pub version : new.version ≡ present old
  pub reads : new.broker.checked_reads ≡ old.broker.checked_reads
  pub begun : IsBegun new.broker

-- why it does not begin, by whether a submission is pending, and whether the newest commits have these numbers
abbrev pub fault_by : Bool → Bool → Option EpochFault
fault_by true same = Some Pending
fault_by false true = None
fault_by false false = Some NotNewest

-- The numbers are those of the domains from the controller's own on. Of a domain without one nothing is asked.
abbrev pub epoch_fault : HubHistory → Bases → List ℕ → Option EpochFault
epoch_fault known bases newest = fault_by (nat_lt 0 (pending (history known.world known.log))) (are_newest known bases 0 newest)

-- Compare and begin: the next epoch of the leader, or the leader as it was, with why it does not begin.
abbrev pub Begins : Leader → List ℕ → Result Leader (Leader × EpochFault) → Type 0
Begins old newest result =
    MatchResult result (λ new. (epoch_fault old.broker.hub old.bases newest ≡ None) × IsNext old new) (λ back. (epoch_fault old.broker.hub old.bases newest ≡ Some back.1) × (back.0 ≡ old))
