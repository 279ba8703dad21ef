-- The schema of the modules with these texts, or their first fault.
use Rattle.std.specs.Prelude.{◌≡◌, ◌<◌, ◌≤◌, ◌^◌, ℕ, List, [], Ok, Err, map, length, take, get_or}
use Rattle.std.specs.Borrow.{Bor}
use Rattle.std.specs.List.{sum_by}
use Rattle.sal_stmt.specs.declared.fault.StmtFault.{StmtFault}
use Rattle.sal_stmt.specs.declared.stmt.Stmt.{Stmt}
use Rattle.sal_stmt.specs.Text.{read}
use Rattle.sal_stmt.specs.Words.{Text}
use Rattle.sal_schema.specs.declared.table.SchemaTable.{SchemaTable}
use Rattle.sal_module_table.specs.Build.{build}
use Rattle.sal.specs.declared.modules.SchemaFault.{SchemaFault}
use Rattle.sal.specs.declared.modules.SchemaFault.TheVariants as fault

-- the texts after references
abbrev pub texts_in : List (Bor Text) → List Text
texts_in texts = map (λ text. text.now) texts

-- each text is read as the statement at its index
abbrev pub AreRead : List Text → List Stmt → Type 0
AreRead texts stmts = map read texts ≡ map Ok stmts

-- the table that the statements of the texts build
abbrev pub IsSchemaOf : List Text → SchemaTable → Type 0
IsSchemaOf texts table = (stmts : List Stmt) × AreRead texts stmts × (build stmts ≡ Ok table)

-- ---- their first fault

-- the texts before the one with this number are read, and that one has this fault
abbrev pub IsFirstUnread : List Text → ℕ → StmtFault → Type 0
IsFirstUnread texts number unread =
    (stmts : List Stmt) × (number < length texts) × AreRead (take number texts) stmts × (read (get_or texts number []) ≡ Err unread)

-- the fault of the text with this number, unless memory ran out
abbrev pub IsUnread : ℕ → Text → SchemaFault → Type 0
IsUnread number text (fault.Text place unread) = (place ≡ number) × (read text ≡ Err unread)
IsUnread number text (fault.Modules found) = ⊥
IsUnread number text fault.TooLong = ⊥
IsUnread number text fault.NoMemory = Unit {0}

-- the fault of the first of the texts that is not a statement, unless memory ran out
abbrev pub IsUnreadAmong : List Text → SchemaFault → Type 0
IsUnreadAmong texts (fault.Text place unread) = IsFirstUnread texts place unread
IsUnreadAmong texts (fault.Modules found) = ⊥
IsUnreadAmong texts fault.TooLong = ⊥
IsUnreadAmong texts fault.NoMemory = Unit {0}

-- the texts have fewer than 2^32 bytes together
abbrev pub AreShort : List Text → Type 0
AreShort texts = sum_by length texts < 2 ^ 32

-- Why the texts have no schema, unless memory ran out: they are too long; else the first of them that is not a statement has this fault; else all
-- are read, and this is the first fault of the modules.
abbrev pub IsFaultOf : List Text → SchemaFault → Type 0
IsFaultOf texts fault.TooLong = 2 ^ 32 ≤ sum_by length texts
IsFaultOf texts (fault.Text place unread) = AreShort texts × IsFirstUnread texts place unread
IsFaultOf texts (fault.Modules found) = AreShort texts × (stmts : List Stmt) × AreRead texts stmts × (build stmts ≡ Err found)
IsFaultOf texts fault.NoMemory = Unit {0}
