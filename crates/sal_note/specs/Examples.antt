-- Worked examples of notifications: clients and their calls.
use Rattle.std.specs.Prelude.{ℕ, zero, suc, List, [], ◌∷◌, map}
use Rattle.sal_types.specs.declared.value.Step.TheVariants.{Node}
use Rattle.sal_types.specs.declared.value.Cell.TheVariants.{Mark}
use Rattle.sal_types.specs.declared.row.Row.{Row}
use Rattle.sal_note.specs.declared.call.Note.{Note}
use Rattle.sal_note.specs.declared.call.NoteCall.{NoteCall}
use Rattle.sal_note.specs.declared.call.NoteReply.{NoteReply}
use Rattle.sal_note.specs.Queues.{Asked, made_of}

abbrev pub by : ℕ → NoteCall → Asked
by client call = record { client = client; call = call }

-- rows that differ in their node
abbrev pub rows : ℕ → List Row
rows n = record { path = Node n ∷ []; cell = Mark } ∷ []

abbrev pub note : ℕ → ℕ → Note
note n r = record { note = n; rows = rows r }

-- the same call n times
abbrev pub times : ℕ → Asked → List Asked
times zero a = []
times (suc n) a = a ∷ times n a

abbrev pub replies : List Asked → List NoteReply
replies calls = map (λ m. m.reply) (made_of calls)
