-- Each accepted write of a log would be accepted over the trees just before its commit.
use Rattle.std.proofs.Common.{◌≡◌, ℕ, ◌-◌, List, [], take, sym, subst}
use Rattle.std.specs.Prelude.{IsTrue}
use Rattle.sal_types.specs.declared.value.Store.{Store}
use Rattle.sal_types.specs.declared.row.Row.{Row}
use Rattle.sal_rows.specs.declared.outcome.Outcome.TheVariants.{Done}
use Rattle.sal_rows.specs.Commits.{tree_after}
use Rattle.sal_rows.specs.Spans.{spans}
use Rattle.sal_schema.specs.declared.table.SchemaTable.{SchemaTable}
use Rattle.sal_schema.specs.Fitting.{is_closed}
use Rattle.sal_schema.specs.Valid.{IsTable}
use Rattle.sal_history.specs.History.{history, outcomes, sents, trees_at}
use Rattle.sal_history.specs.Submissions.{done_chains, done_ops}
use Rattle.sal_history.specs.Versions.{schema_version}
use Rattle.sal_history.specs.World.{opening_of, rules_of, table_of}
use Rattle.sal_history_laws.specs.Lawful.{AreClosed, AreLawful}
use Rattle.sal_history_laws.specs.SerialLaws.{AcceptedWritesStand}
use Rattle.sal_history_laws.proofs.Closing.{without_conflict_stays_lawful}
use Rattle.sal_history_laws.proofs.Commits.{kept-fold, kept-nothing}
use Rattle.sal_history_laws.proofs.Conflicts.{done-quiet}
use Rattle.sal_history_laws.proofs.Decided.{decided}
use Rattle.sal_history_laws.proofs.Plays.{trees_before}
use Rattle.sal_history_laws.proofs.Versions.{opening_by, table_is}

pub accepted_writes_stand : AcceptedWritesStand
accepted_writes_stand world log i t commit sound lawful at is =
    let version = schema_version (history world log) in
    let domain = t.base.domain in
    let ss = sents (history world log) in
    let before = take i (outcomes (history world log)) in
    let opening : Store → List Row = opening_of world domain in
    let table : SchemaTable = table_of world version domain in
    let are_tables : (d : ℕ) → IsTable (table_of world version d) = λ d. table_is world version d sound in
    let opened : (d : ℕ) → AreClosed (table_of world version d) (opening_of world d) = λ d. opening_by world version d sound in
    let kept = kept-fold world (table_of world version) are_tables opened [] log lawful (kept-nothing world (table_of world version) are_tables opened) in
    let newest : Store → List Row = λ s. tree_after s (opening s) (done_ops domain ss before) in
    let same : newest ≡ (λ s. trees_at world (history world log) domain s (commit - 1)) = λ k s. trees_before world log i t commit at is s k in
    let closed : AreClosed table newest = λ s. subst (λ (rows : List Row). IsTrue (is_closed table rows)) (sym (trees_before world log i t commit at is s)) (kept.decided.1 domain (commit - 1) s) in
    let (by, live, e) = decided world log i t (Done commit) at is in
    let none = done-quiet world by live ss before t commit e in
    subst (λ (trees : Store → List Row). AreLawful table trees [] t.ops) same
    (without_conflict_stays_lawful table opening (done_ops domain ss before) (rules_of world domain) t.base.trees (spans t.base.commit t.base.chain (done_chains domain ss before)) t.ops (are_tables domain) (kept.sent i t at) closed (lawful i t at) none)
