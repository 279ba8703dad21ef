-- A stand-by of a leader.
use Rattle.std.specs.Prelude.{◌≡◌, ◌+◌, ◌<◌, ℕ, List, ◌++◌, drop, length, slice_index_or, Ok}
use Rattle.std.specs.List.{All}
use Rattle.sal_hub.specs.HubHistory.{HubHistory}
use Rattle.sal_follow.specs.Framed.{IsSnapshot, nothing}
use Rattle.sal_follow.specs.Laws.{AreFollowed, HoldsOneOf}
use Rattle.sal_follow.specs.Stream.{fresh_at, followed}
use Rattle.sal_resume.specs.Committed.{committed}
use Rattle.sal_cluster.specs.Leaders.{Sends, table_sent}

-- The snapshot of any commit of a leader's domain n, and then the frames above its number, or a prefix of these bytes: what was fed them has no fault,
-- and the leader's trees at its number. Premises: the trees are closed by the last version of the schema, the configuration has no state data, and values are
-- read as they were written.
abbrev pub StandBysHoldTheLeadersTrees : Type 0
StandBysHoldTheLeadersTrees =
    (known : HubHistory) (n base k : ℕ) (all after : List ℕ) → k < length (committed known n) → All (AreFollowed (table_sent known n)) (drop k (committed known n))
    → IsSnapshot (table_sent known n) (base + k) (slice_index_or (committed known n) k nothing) (Ok all) → Sends known n base (base + k) (Ok after)
    → (bytes more : List ℕ) → bytes ++ more ≡ all ++ after → HoldsOneOf (base + k) (drop k (committed known n)) (followed (table_sent known n) (fresh_at (base + k)) bytes)
