-- The hub's notifications are those of its log, and the effect of a call on them.
use Rattle.sal_note.specs.declared.call.NoteFault.{NoteFault}
use Rattle.sal_note.specs.declared.call.NoteFault.TheVariants.{NoMemory, NoteRejected}
use Rattle.sal_note.specs.Boxes.{Boxes, IsOf}
use Rattle.sal_history.specs.History.{history}
use Rattle.sal_history.specs.Services.{note_calls}
use Rattle.sal_hub.specs.Journals.{Noted, taken_back}
use Rattle.sal_hub.specs.HubHistory.{HubHistory}

-- the boxes are those of the log's calls on notifications
abbrev pub AreNoted : HubHistory → Boxes → Type 0
AreNoted known notes = IsOf (note_calls (history known.world known.log)) notes

-- ---- effects of calls

-- the journal after a call that failed: it has its entry, unless memory ran out
abbrev pub left_by : NoteFault → Noted → Noted
left_by NoMemory j = taken_back j
left_by (NoteRejected subscriber) j = j
