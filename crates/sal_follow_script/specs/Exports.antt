-- The text of `export`: the frames of domain 0 of a script that is played in its order.
use Rattle.std.specs.Prelude.{ℕ, ◌+◌, List, length, map, Option, Some, None, Result, Ok, Err}
use Rattle.std.specs.List.{range_with_len}
use Rattle.sal_types.specs.Reading.{◌>>=◌}
use Rattle.sal_types.specs.declared.value.Store.TheVariants.{Config, Oper}
use Rattle.sal_schema.specs.declared.table.SchemaTable.{SchemaTable}
use Rattle.sal_history.specs.declared.call.Entry.{Entry}
use Rattle.sal_history.specs.History.{commits, history, trees_at}
use Rattle.sal_history.specs.World.{Domain, last_of}
use Rattle.sal_follow.specs.Framed.{Trees, exported, frames, too_long}
use Rattle.sal_script.specs.Play.{Played, play}
use Rattle.sal_prepare.specs.declared.status.Status.{Status}
use Rattle.sal_prepare.specs.declared.status.Status.TheVariants.{BadExport, BadOrder}
use Rattle.sal_prepare.specs.Scripted.{prepared}

-- ---- the export of a log

-- the trees of domain 0 at its commit of this number
abbrev pub trees_by : List Domain → List Entry → ℕ → Trees
trees_by world log k = record { config = trees_at world (history world log) 0 Config k; oper = trees_at world (history world log) 0 Oper k }

-- those at its opening, and at each of its commits
abbrev pub own_trees : List Domain → List Entry → List Trees
own_trees world log = map (trees_by world log) (range_with_len 0 (length (commits (history world log) 0) + 1))

-- the bytes, unless the text of a commit is too long
abbrev pub or_too_long : List ℕ → Option ℕ → Result (List ℕ) Status
or_too_long bytes None = Ok bytes
or_too_long bytes (Some commit) = Err (BadExport commit)

-- the frames of commits with these trees
abbrev pub frames_by : SchemaTable → List Trees → Result (List ℕ) Status
frames_by table trees = or_too_long (exported table trees) (too_long table (frames trees))

-- those of domain 0, by the last version of its schema
abbrev pub export_log : List Domain → List Entry → Result (List ℕ) Status
export_log world log = frames_by (last_of world 0) (own_trees world log)

-- ---- the export of a script

abbrev pub export_play : List Domain → Result Played ℕ → Result (List ℕ) Status
export_play world (Ok played) = export_log world played.log
export_play world (Err index) = Err (BadOrder index)

-- The frames of the script that the bytes denote, played in its order. An earlier fault is returned first.
abbrev pub export_text : List ℕ → Result (List ℕ) Status
export_text bytes = prepared bytes >>= (λ script. export_play script.world (play script.world script.parts.clients script.parts.order))
