-- What a conflict names, the trees after a done submission, and a chain without conflicts with itself.
use Rattle.std.specs.Prelude.{◌≡◌, ◌⊎◌, ℕ, Bool, true, false, [], ◌∷◌, ◌++◌, ◌<◌, ◌≤◌, List, length, take, drop, Some, None, Any, IsTrue, slice_get}
use Rattle.sal_types.specs.declared.value.Store.{Store}
use Rattle.sal_types.specs.declared.value.Step.{Step}
use Rattle.sal_types.specs.declared.row.Row.{Row}
use Rattle.sal_types.specs.Prefix.{is_prefix}
use Rattle.sal_rows.specs.declared.clash.Rules.{Rules}
use Rattle.sal_rows.specs.declared.op.Op.{Op}
use Rattle.sal_rows.specs.Apply.{rows_of_act}
use Rattle.sal_rows.specs.Clash.{checks_leafs, is_leaf}
use Rattle.sal_rows.specs.declared.outcome.ClashKind.{ClashKind}
use Rattle.sal_rows.specs.declared.outcome.Outcome.{Outcome}
use Rattle.sal_rows.specs.declared.outcome.Outcome.TheVariants.{Conflict, Done}
use Rattle.sal_rows.specs.Commits.{touches_at, tree_after, tree_at}
use Rattle.sal_rows.specs.Spans.{is_own, spans}
use Rattle.sal_rows.specs.Quiet.{with_own}
use Rattle.sal_schema.specs.declared.table.SchemaTable.{SchemaTable}
use Rattle.sal_rules.specs.Breaches.{breach}
use Rattle.sal_history.specs.World.{Domain, opening_of, rules_of}
use Rattle.sal_history.specs.declared.call.Entry.{Entry}
use Rattle.sal_history.specs.Submissions.{Base, Sent, done_chains, done_ops}
use Rattle.sal_history.specs.History.{history, outcome, outcomes, sents}

-- Over the submissions and the outcomes that were decided: the tree of a store at a base's commit, with the later commits of
-- its own chain applied. Without a chain it is the tree at that commit.
abbrev pub own_tree : List Domain → List Sent → List Outcome → Base → Store → List Row
own_tree world ss os base store =
    with_own (done_ops base.domain ss os) store (tree_at (opening_of world base.domain) (done_ops base.domain ss os) store base.commit)
    (drop 1 (spans base.commit base.chain (done_chains base.domain ss os)))

-- the base has a commit of its domain, and the trees there with the later commits of its own chain applied
abbrev pub IsBase : List Domain → List Sent → List Outcome → Base → Type 0
IsBase world ss os base =
    (base.commit ≤ length (done_ops base.domain ss os)) × ((store : Store) → base.trees store ≡ own_tree world ss os base store)

-- the commit is one of the domain's, came after the submission's base, touched the path, and is not of the submission's chain
abbrev pub IsLaterTouch : List Domain → List Sent → List Outcome → Sent → Store → List Step → ℕ → Type 0
IsLaterTouch world ss os s store path commit =
    (s.base.commit < commit) × (commit ≤ length (done_ops s.base.domain ss os))
    × IsTrue (touches_at (opening_of world s.base.domain) (done_ops s.base.domain ss os) store path commit)
    × (is_own s.base.chain (done_chains s.base.domain ss os) commit ≡ false)

-- the path is that of a leaf that a merge names, which version rules 2 check
abbrev pub IsOwnLeaf : Rules → Op → List Step → Type 0
IsOwnLeaf rules op path = (checks_leafs rules op.act ≡ true) × Any (λ (row : Row). (row.path ≡ path) × (is_leaf row.cell ≡ true)) (rows_of_act op.act)

-- the path is one of the submission's operations, in that store, or a prefix of one; or it is that of a leaf that one of them merges,
-- under version rules 2
abbrev pub IsOwnPlace : Rules → Sent → Store → List Step → Type 0
IsOwnPlace rules s store path = Any (λ (op : Op). (op.store ≡ store) × (IsTrue (is_prefix path op.path) ⊎ IsOwnLeaf rules op path)) s.ops

-- If the outcome of a submission with such a base, decided after these outcomes, is a conflict, it names such a commit and such a path.
abbrev pub ConflictsNameALaterCommit : Type 0
ConflictsNameALaterCommit =
    (world : List Domain) (tables : ℕ → SchemaTable) (live : ℕ → Bool) (ss : List Sent) (os : List Outcome) (s : Sent) (store : Store) (path : List Step) (kind : ClashKind) (commit : ℕ)
    → IsBase world ss os s.base → outcome world tables live ss os s ≡ Conflict store path kind commit
    → IsLaterTouch world ss os s store path commit × IsOwnPlace (rules_of world s.base.domain) s store path

-- Each receipt of a log with a conflict as its outcome names a commit that was done before it, came after the base of its
-- transaction, touched the path, and is not of its chain; and the path is at or above one of its operations, or under version rules 2
-- that of a leaf that it merges.
abbrev pub ConflictsOfALogNameALaterCommit : Type 0
ConflictsOfALogNameALaterCommit =
    (world : List Domain) (log : List Entry) (i : ℕ) (s : Sent) (store : Store) (path : List Step) (kind : ClashKind) (commit : ℕ)
    → slice_get (sents (history world log)) i ≡ Some s → slice_get (outcomes (history world log)) i ≡ Some (Conflict store path kind commit)
    → IsLaterTouch world (sents (history world log)) (take i (outcomes (history world log))) s store path commit × IsOwnPlace (rules_of world s.base.domain) s store path

-- A submission that is done after these outcomes gives trees that break no rule of the table by which it was decided, in both stores.
abbrev pub DoneLeavesNoBreach : Type 0
DoneLeavesNoBreach =
    (world : List Domain) (tables : ℕ → SchemaTable) (live : ℕ → Bool) (ss : List Sent) (os : List Outcome) (s : Sent) (commit : ℕ) (store : Store)
    → outcome world tables live ss os s ≡ Done commit
    → breach (tables s.base.domain) store (tree_after store (opening_of world s.base.domain store) (done_ops s.base.domain ss os ++ s.ops ∷ [])) ≡ None
