-- The lines that are written of a module.
use Rattle.std.specs.Prelude.{ℕ, Bool, ◌&&◌, List, [], ◌∷◌, ◌++◌, Option, None, Some, Result, Ok, Err, codes, decimal, drop, nat_le, nat_lt, take}
use Rattle.std.specs.List.{enumerate_from, flat_map, prefix_len}
use Rattle.sal_stmt.specs.declared.fault.StmtFault.{StmtFault}
use Rattle.sal_stmt.specs.declared.fault.StmtFault.TheVariants as stmt_fault
use Rattle.sal_stmt.specs.declared.stmt.Stmt.{Stmt}
use Rattle.sal_stmt.specs.Text.{read}
use Rattle.sal_lint.specs.declared.notes.Note.{Note}
use Rattle.sal_lint.specs.declared.notes.Note.TheVariants.{Ignored, Refused}
use Rattle.sal_lint.specs.declared.notes.Noted.{Noted}
use Rattle.sal_lint.specs.declared.places.Place.{Place}
use Rattle.sal_lint.specs.Notes.{notes_in}
use Rattle.sal_lint.specs.Places.{place_of}

-- ---- a line

-- printable ASCII
abbrev pub is_plain : ℕ → Bool
is_plain byte = nat_le 32 byte && nat_lt byte 127

abbrev pub plain_front : List ℕ → List ℕ
plain_front text = take (prefix_len is_plain text) text

-- the text from an offset to the end of its line, but not beyond 60 bytes or a byte that is no printable ASCII
abbrev pub shown : List ℕ → ℕ → List ℕ
shown text at = plain_front (take 60 (drop at text))

-- a place in a module of a device
abbrev pub head : ℕ → ℕ → Place → List ℕ
head d m place =
    codes "device " ++ (decimal d ++ (codes " module " ++ (decimal m
    ++ (codes " line " ++ (decimal place.line ++ (codes " column " ++ (decimal place.column ++ codes ": ")))))))

-- a word of what is at this offset of a text, and the text there
abbrev pub said : List ℕ → List ℕ → ℕ → List ℕ
said text word at = word ++ (codes ": " ++ (shown text at ++ 10 ∷ []))

-- the line of this in module m of device d
abbrev pub line_at : ℕ → ℕ → List ℕ → List ℕ → ℕ → List ℕ
line_at d m text word at = head d m (place_of text at) ++ said text word at

-- ---- the lines of a module

abbrev pub note_word : Note → List ℕ
note_word Refused = codes "refused"
note_word Ignored = codes "ignored"

abbrev pub note_line : ℕ → ℕ → List ℕ → Noted → List ℕ
note_line d m text noted = line_at d m text (note_word noted.note) noted.at

-- the word of a fault of a text, and its offset
abbrev pub fault_word : StmtFault → Option (List ℕ × ℕ)
fault_word (stmt_fault.BadToken at) = Some (codes "bad-token", at)
fault_word (stmt_fault.BadEscape at) = Some (codes "bad-escape", at)
fault_word (stmt_fault.Unclosed at) = Some (codes "unclosed", at)
fault_word (stmt_fault.TooDeep at) = Some (codes "too-deep", at)
fault_word (stmt_fault.TextAfter at) = Some (codes "text-after", at)
fault_word stmt_fault.NoMemory = None

abbrev pub fault_line : ℕ → ℕ → List ℕ → Option (List ℕ × ℕ) → List ℕ
fault_line d m text None = []
fault_line d m text (Some (word, at)) = line_at d m text word at

-- what is noted of the statement of a text, or its fault
abbrev pub lines_by : ℕ → ℕ → List ℕ → Result Stmt StmtFault → List ℕ
lines_by d m text (Ok stmt) = flat_map (note_line d m text) (notes_in 64 stmt)
lines_by d m text (Err fault) = fault_line d m text (fault_word fault)

-- the lines of module m of device d, which has this text
abbrev pub module_lines : ℕ → ℕ → List ℕ → List ℕ
module_lines d m text = lines_by d m text (read text)

-- the lines of the modules of device d, numbered from 0
abbrev pub lines_of : ℕ → List (List ℕ) → List ℕ
lines_of d texts = flat_map (λ (m, text). module_lines d m text) (enumerate_from 0 texts)
