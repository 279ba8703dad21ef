-- What a leader sends above the number of a commit are the frames after it.
use Rattle.std.proofs.Common.{◌≡◌, ℕ, ◌+◌, ◌-◌, List, Result, Ok, Err, sym, subst, arith}
use Rattle.sal_hub.specs.HubHistory.{HubHistory}
use Rattle.sal_follow.specs.declared.fault.ExportFault.{ExportFault}
use Rattle.sal_follow.specs.declared.fault.ExportFault.TheVariants.{TooLong, NoMemory}
use Rattle.sal_follow.specs.Framed.{ExportsOn}
use Rattle.sal_follow.specs.Laws.{SnapshotsAreFollowed}
use Rattle.sal_resume.specs.Committed.{committed}
use Rattle.sal_cluster.specs.declared.fault.FramesFault.{FramesFault}
use Rattle.sal_cluster.specs.Laws.{StandBysHoldTheLeadersTrees}
use Rattle.sal_cluster.specs.Leaders.{Sends, as_frames, table_sent}

same_bytes : (a b : List ℕ) → (let r : Result (List ℕ) FramesFault = Ok a in r) ≡ Ok b → a ≡ b
same_bytes a b e = cc

-- an export that is sent
exported : (P : Result (List ℕ) ExportFault → Type 0) (after : List ℕ) (told : Result (List ℕ) ExportFault) → P told → (let r : Result (List ℕ) FramesFault = Ok after in r) ≡ as_frames told → P (Ok after)
exported P after (Ok bytes) is e = subst (λ (b : List ℕ). P (Ok b)) (same_bytes bytes after (sym e)) is
exported P after (Err (TooLong number)) is e = cc
exported P after (Err NoMemory) is e = cc

sent : (known : HubHistory) (n base k : ℕ) (after : List ℕ) → Sends known n base (base + k) (Ok after) → ExportsOn (table_sent known n) (committed known n) (k + 1) (base + k + 1) (Ok after)
sent known n base k after (low, (told, is, e)) =
    let next : base + k + 1 - base ≡ k + 1 = omega arith in
    subst (λ (m : ℕ). ExportsOn (table_sent known n) (committed known n) m (base + k + 1) (Ok after)) next
    (exported (ExportsOn (table_sent known n) (committed known n) (base + k + 1 - base) (base + k + 1)) after told is e)

pub held : SnapshotsAreFollowed → StandBysHoldTheLeadersTrees
held law known n base k all after inside closed first rest = law (table_sent known n) (committed known n) k (base + k) all after inside closed first (sent known n base k after rest)
