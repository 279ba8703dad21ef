-- Laws of closed trees.
use Rattle.std.specs.Prelude.{◌≡◌, true, List, [], ◌∷◌, ◌++◌, None, IsTrue, is_some}
use Rattle.sal_types.specs.declared.value.Store.{Store}
use Rattle.sal_types.specs.declared.value.Step.{Step}
use Rattle.sal_types.specs.declared.row.Row.{Row}
use Rattle.sal_types.specs.Tree.{cell, has}
use Rattle.sal_rows.specs.declared.clash.Rules.{Rules}
use Rattle.sal_rows.specs.declared.clash.Span.{Span}
use Rattle.sal_rows.specs.declared.op.Op.{Op}
use Rattle.sal_rows.specs.Apply.{apply_ops}
use Rattle.sal_rows.specs.Clash.{clash, tip}
use Rattle.sal_schema.specs.declared.table.SchemaTable.{SchemaTable}
use Rattle.sal_schema.specs.Fitting.{has_own_row, is_closed}
use Rattle.sal_schema.specs.Valid.{IsTable}
use Rattle.sal_schema.specs.Versions.{Extends}
use Rattle.sal_history.specs.Answered.{Answered}
use Rattle.sal_history.specs.History.{history}
use Rattle.sal_history.specs.Submissions.{Sent}
use Rattle.sal_history.specs.Versions.{tables_now}
use Rattle.sal_history.specs.World.{Domain}
use Rattle.sal_history.specs.declared.call.Entry.{Entry}
use Rattle.sal_history_laws.specs.Lawful.{AreClosed, AreLawful}
use Rattle.sal_history_laws.specs.Logs.{AreSentLawful, AreSound, IsClosedLog, IsSentLawful}

-- Operations that are lawful over closed trees give closed trees.
abbrev pub LawfulKeepsClosed : Type 0
LawfulKeepsClosed =
    (table : SchemaTable) (base : Store → List Row) (ops : List Op) → IsTable table → AreClosed table base → AreLawful table base [] ops
    → AreClosed table (λ s. apply_ops (base s) s ops)

-- And they give closed trees from the newest ones, if they have no conflict with the commits in the spans: for any version rules, any
-- spans and any base.
abbrev pub WithoutConflictStaysClosed : Type 0
WithoutConflictStaysClosed =
    (table : SchemaTable) (opening : Store → List Row) (commits : List (List Op)) (rules : Rules) (base : Store → List Row) (spans : List Span) (ops : List Op)
    → IsTable table → AreClosed table base → AreClosed table (tip opening commits) → AreLawful table base [] ops
    → clash opening commits rules base spans ops ≡ None
    → AreClosed table (λ s. apply_ops (tip opening commits s) s ops)

-- And the same operations are lawful over the newest trees too: each write that was accepted over the base would be accepted there.
abbrev pub WithoutConflictStaysLawful : Type 0
WithoutConflictStaysLawful =
    (table : SchemaTable) (opening : Store → List Row) (commits : List (List Op)) (rules : Rules) (base : Store → List Row) (spans : List Span) (ops : List Op)
    → IsTable table → AreClosed table base → AreClosed table (tip opening commits) → AreLawful table base [] ops
    → clash opening commits rules base spans ops ≡ None
    → AreLawful table (tip opening commits) [] ops

-- So a log whose submissions are lawful by the present version has only closed trees, by that version, if its opening trees are
-- closed by version 0: for any versions by which the submissions were decided.
abbrev pub LogsStayClosed : Type 0
LogsStayClosed = (world : List Domain) (log : List Entry) → AreSound world → AreSentLawful world (history world log) → IsClosedLog world (history world log)

-- Operations that are lawful over a base by a version of a schema are lawful by each later version.
abbrev pub LawfulStays : Type 0
LawfulStays =
    (newer older : SchemaTable) (base : Store → List Row) (earlier ops : List Op) → IsTable older → Extends newer older
    → AreLawful older base earlier ops → AreLawful newer base earlier ops

-- And trees that are closed by it are closed by each later one.
abbrev pub ClosedStays : Type 0
ClosedStays =
    (newer older : SchemaTable) (trees : Store → List Row) → IsTable older → Extends newer older → AreClosed older trees → AreClosed newer trees

-- So after one more entry each submission before it is lawful by the present version, if it was lawful by the version before.
abbrev pub SentsStayLawful : Type 0
SentsStayLawful =
    (world : List Domain) (answered : List Answered) (a : Answered) (s : Sent) → AreSound world
    → IsSentLawful (tables_now world answered) s → IsSentLawful (tables_now world (answered ++ a ∷ [])) s

-- In a closed tree, a present node has its own row exactly if its kind has one: a
-- presence container, an entry, a leaf.
abbrev pub OwnRowsStand : Type 0
OwnRowsStand =
    (table : SchemaTable) (tree : List Row) (r : List Step) → IsTable table → IsTrue (is_closed table tree) → has tree r ≡ true
    → is_some (cell tree r) ≡ has_own_row table r
