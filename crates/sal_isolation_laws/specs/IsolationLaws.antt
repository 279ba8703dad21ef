-- Laws of snapshot isolation, for each log.
use Rattle.std.specs.Prelude.{◌≡◌, ◌<◌, ◌-◌, ℕ, true, not, Bool, ◌&&◌, List, length, take, None, Some, slice_get, if◌then◌else◌}
use Rattle.std.specs.List.{position_from}
use Rattle.std.specs.Option.{option_map}
use Rattle.sal_types.specs.declared.value.Store.{Store}
use Rattle.sal_types.specs.declared.row.Row.{Row}
use Rattle.sal_types.specs.Tree.{cell}
use Rattle.sal_rows.specs.declared.clash.Rules.TheVariants.{Two}
use Rattle.sal_rows.specs.declared.op.Op.{Op}
use Rattle.sal_rows.specs.Apply.{checks_path, rows_of_act}
use Rattle.sal_rows.specs.Changes.{same_cell}
use Rattle.sal_rows.specs.Clash.{at_row, checks_leafs, is_leaf, leaf_clash, tip}
use Rattle.sal_rows.specs.PathClash.{is_covered}
use Rattle.sal_rows.specs.Quiet.{AreFresh, AreQuiet}
use Rattle.sal_rows.specs.Spans.{spans}
use Rattle.sal_history.specs.declared.call.Entry.{Entry}
use Rattle.sal_history.specs.Answered.{Answered}
use Rattle.sal_history.specs.History.{history, outcomes, sents, trees_at}
use Rattle.sal_history.specs.Submissions.{Base, Sent, done_chains, done_ops, failing}
use Rattle.sal_history.specs.World.{Domain, opening_of, rules_of}
use Rattle.sal_history_laws.specs.Serial.{IsOfBegun}
use Rattle.sal_isolation_laws.specs.Isolation.{AreConcurrent, IsDoneAs, LeftNoChange, ReadsOneCommit}

-- Each transaction that an entry began, in any mode, submitted or not, reads one commit with its own chain's submissions on top. Later entries
-- change nothing of that.
abbrev pub SnapshotsAreRead : Type 0
SnapshotsAreRead =
    (world : List Domain) (log : List Entry) (place : ℕ) (a : Answered) (b : Base)
    → slice_get (history world log) place ≡ Some a → a.began ≡ Some b
    → ReadsOneCommit world (history world log) (sents (take place (history world log))) b

-- Of two concurrent transactions that were done, the later one puts or deletes no path at or below which the earlier one left a change. Merges
-- are outside of that, under both version rules.
abbrev pub FirstCommitterWins : Type 0
FirstCommitterWins =
    (world : List Domain) (log : List Entry) (i j : ℕ) (t u : Sent) (commit k n : ℕ) (op : Op)
    → IsDoneAs (history world log) i t commit → IsDoneAs (history world log) j u k → IsOfBegun (history world log) t
    → AreConcurrent t commit u k
    → slice_get t.ops n ≡ Some op → checks_path op.act ≡ true
    → LeftNoChange world (history world log) t commit k op.store op.path

-- And the trees that it saw have the same cells as those just before its commit, at and below each path that it puts or deletes; under version
-- rules 2 also at each leaf that it merges, at or below the merge's own path.
abbrev pub PathsAreAsSeen : Type 0
PathsAreAsSeen =
    (world : List Domain) (log : List Entry) (i : ℕ) (t : Sent) (commit : ℕ)
    → IsDoneAs (history world log) i t commit → IsOfBegun (history world log) t
    → let newest : Store → List Row = λ s. trees_at world (history world log) t.base.domain s (commit - 1) in
    AreQuiet t.base.trees newest t.ops × AreFresh (rules_of world t.base.domain) t.base.trees newest t.ops

-- ---- merges under version rules 2

-- at the path of the leaf two pairs of trees have different cells
abbrev pub differs : (Store → List Row) → (Store → List Row) → Store → Row → Bool
differs base newest s row = is_leaf row.cell && not (same_cell (cell (base s) row.path) (cell (newest s) row.path))

-- When a submission of an unfailed chain, or of none, is decided, a merge conflicts by values alone: at the first leaf of its data at which the
-- transaction's base and the newest tree have different cells.
abbrev pub MergesConflictByValue : Type 0
MergesConflictByValue =
    (world : List Domain) (log : List Entry) (i : ℕ) (t : Sent) (earlier : List Op) (op : Op)
    → slice_get (sents (history world log)) i ≡ Some t → i < length (outcomes (history world log)) → IsOfBegun (history world log) t
    → failing t.base.chain (sents (history world log)) (take i (outcomes (history world log))) ≡ None
    → let opening = opening_of world t.base.domain in
    let cs = done_ops t.base.domain (sents (history world log)) (take i (outcomes (history world log))) in
    let pieces = spans t.base.commit t.base.chain (done_chains t.base.domain (sents (history world log)) (take i (outcomes (history world log)))) in
    leaf_clash opening cs Two t.base.trees pieces earlier op
    ≡ (if checks_leafs Two op.act && not (is_covered earlier op.store op.path)
    then option_map (at_row opening cs t.base.trees pieces earlier op) (position_from (differs t.base.trees (tip opening cs) op.store) 0 (rows_of_act op.act))
    else None)
