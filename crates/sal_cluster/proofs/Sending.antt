-- What a leader sends is an export; it sends nothing above the number of its newest commit.
use Rattle.std.proofs.Common.{◌≡◌, ℕ, ◌+◌, ◌-◌, ◌≤◌, List, [], Result, Ok, Err, length, refl, ap, sym, subst, arith}
use Rattle.std.proofs.lemmas.List.{drop_all}
use Rattle.std.proofs.lemmas.List.FromFn.{length-map-range_with_len}
use Rattle.sal_history.specs.History.{commits, history}
use Rattle.sal_hub.specs.HubHistory.{HubHistory}
use Rattle.sal_follow.specs.declared.fault.ExportFault.{ExportFault}
use Rattle.sal_follow.specs.declared.fault.ExportFault.TheVariants.{TooLong, NoMemory}
use Rattle.sal_follow.specs.declared.frame.Frame.{Frame}
use Rattle.sal_follow.specs.Framed.{AreExported, ExportsOn, Trees, before_at, frames_from, frames_on}
use Rattle.sal_resume.specs.Committed.{committed, trees_by}
use Rattle.sal_cluster.specs.Leaders.{Sends, as_frames, table_sent}

-- there are no frames after the last of these trees
none_after : (trees : List Trees) (k number : ℕ) → length trees ≤ k → frames_on trees k number ≡ []
none_after trees k number past = ap (λ (ts : List Trees). frames_from number (before_at trees k) ts) (drop_all k trees past)

long : (known : HubHistory) (n : ℕ) → length (committed known n) ≡ length (commits (history known.world known.log) n) + 1
long known n = length-map-range_with_len (trees_by known n) 0 (length (commits (history known.world known.log) n) + 1)

-- none above a number that is not below that of the newest commit
pub sends_none : (known : HubHistory) (n base above : ℕ) → base ≤ above → length (commits (history known.world known.log) n) ≤ above - base → Sends known n base above (Ok [])
sends_none known n base above low past =
    let trees = committed known n in
    let k : ℕ = above + 1 - base in
    let all = long known n in
    let none : frames_on trees k (above + 1) ≡ [] = none_after trees k (above + 1) (omega (arith, all, past, low)) in
    let exported : ExportsOn (table_sent known n) trees k (above + 1) (Ok []) = subst (λ (fs : List Frame). AreExported (table_sent known n) fs (Ok [])) (sym none) (refl, refl, tt) in
    (low, (Ok [], exported, refl))

module _ (known : HubHistory) (n base above : ℕ) (low : base ≤ above) where
  pub sends : (told : Result (List ℕ) ExportFault) → ExportsOn (table_sent known n) (committed known n) (above + 1 - base) (above + 1) told → Sends known n base above (as_frames told)
  sends (Ok bytes) is = (low, (Ok bytes, is, refl))
  sends (Err (TooLong number)) is = (low, (Err (TooLong number), is, refl))
  sends (Err NoMemory) is = (low, (Err NoMemory, is, refl))
