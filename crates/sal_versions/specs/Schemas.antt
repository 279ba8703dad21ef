-- The schema of the modules of a domain, or the text of their first fault.
use Rattle.std.specs.Prelude.{◌≡◌, ◌==◌, ℕ, ◌+◌, Bool, ◌&&◌, ◌||◌, if◌then◌else◌, List, [], ◌∷◌, ◌++◌, Option, None, Some, Result, Ok, Err, MatchResult, length, nat_eq, nat_le, codes, decimal}
use Rattle.std.specs.List.{ends_with, list_all}
use Rattle.sal_types.specs.Reading.{◌>>=◌}
use Rattle.sal_stmt.specs.declared.fault.StmtFault.{StmtFault}
use Rattle.sal_stmt.specs.declared.fault.StmtFault.TheVariants as stmt_fault
use Rattle.sal_stmt.specs.declared.stmt.Stmt.{Stmt}
use Rattle.sal_stmt.specs.Text.{read}
use Rattle.sal_stmt.specs.Words.{continues_identifier}
use Rattle.sal_module.specs.declared.fault.BuildFault.{BuildFault}
use Rattle.sal_module.specs.declared.fault.BuildFault.TheVariants as build_fault
use Rattle.sal_module.specs.declared.fault.What.{What}
use Rattle.sal_module.specs.declared.fault.What.TheVariants.{Modules, Nodes}
use Rattle.sal_schema.specs.declared.table.SchemaTable.{SchemaTable}
use Rattle.sal_module_table.specs.Build.{build}
use Rattle.sal_versions.specs.declared.schema_fault.SchemaFault.{SchemaFault}
use Rattle.sal_versions.specs.declared.schema_fault.SchemaFault.TheVariants.{Bad, NoMemory}

-- ---- the texts of faults

-- the word of a fault of a text, and its offset
abbrev pub stmt_words : StmtFault → Option (List ℕ × ℕ)
stmt_words (stmt_fault.BadToken at) = Some (codes "bad-token", at)
stmt_words (stmt_fault.BadEscape at) = Some (codes "bad-escape", at)
stmt_words (stmt_fault.Unclosed at) = Some (codes "unclosed", at)
stmt_words (stmt_fault.TooDeep at) = Some (codes "too-deep", at)
stmt_words (stmt_fault.TextAfter at) = Some (codes "text-after", at)
stmt_words stmt_fault.NoMemory = None

-- the fault of the module with this number
abbrev pub stmt_text : ℕ → Option (List ℕ × ℕ) → List ℕ
stmt_text number None = []
stmt_text number (Some (word, at)) = codes "module " ++ (decimal number ++ (32 ∷ (word ++ (32 ∷ decimal at))))

-- letters, digits, `_`, `-`, `.` and `/`
abbrev pub is_in_file_names : ℕ → Bool
is_in_file_names c = continues_identifier c || c == 47

-- the name of a file in place of a module's text (tested only for a text with a fault)
abbrev pub is_file_name : List ℕ → Bool
is_file_name text = (nat_le (length text) 255 && ends_with nat_eq text (codes ".yang")) && list_all is_in_file_names text

abbrev pub name_text : ℕ → List ℕ → List ℕ
name_text number name = codes "module " ++ (decimal number ++ (codes " file-name " ++ name))

-- why the text of the module with this number is refused: it is a file's name, or has this fault
abbrev pub fault_text : ℕ → List ℕ → StmtFault → List ℕ
fault_text number text fault = if is_file_name text then name_text number text else stmt_text number (stmt_words fault)

abbrev pub placed : List ℕ → ℕ → ℕ → List ℕ
placed word m at = codes "build " ++ (word ++ (32 ∷ (decimal m ++ (32 ∷ decimal at))))

abbrev pub with_keyword : List ℕ → ℕ → ℕ → List ℕ → List ℕ
with_keyword word m at keyword = codes "build " ++ (word ++ (32 ∷ (decimal m ++ (32 ∷ (decimal at ++ (32 ∷ keyword))))))

abbrev pub too_many : What → List ℕ
too_many Modules = codes "build too-many modules"
too_many Nodes = codes "build too-many nodes"

abbrev pub build_text : BuildFault → List ℕ
build_text (build_fault.UnknownStatement m at) = placed (codes "unknown-statement") m at
build_text (build_fault.LeftOut m at) = placed (codes "left-out") m at
build_text (build_fault.Missing m at keyword) = with_keyword (codes "missing") m at keyword
build_text (build_fault.Twice m at keyword) = with_keyword (codes "twice") m at keyword
build_text (build_fault.BadArgument m at) = placed (codes "bad-argument") m at
build_text (build_fault.NoModule m at) = placed (codes "no-module") m at
build_text (build_fault.ImportCycle m at) = placed (codes "import-cycle") m at
build_text (build_fault.UnknownName m at) = placed (codes "unknown-name") m at
build_text (build_fault.NameCycle m at) = placed (codes "name-cycle") m at
build_text (build_fault.DoubleNode m at) = placed (codes "double-node") m at
build_text (build_fault.BadRestriction m at) = placed (codes "bad-restriction") m at
build_text (build_fault.BadPattern m at) = placed (codes "bad-pattern") m at
build_text (build_fault.BadKey m at) = placed (codes "bad-key") m at
build_text (build_fault.ConfigUnderState m at) = placed (codes "config-under-state") m at
build_text (build_fault.BadTarget m at) = placed (codes "bad-target") m at
build_text (build_fault.OldIdentity m at) = placed (codes "old-identity") m at
build_text (build_fault.TooMany what) = too_many what
build_text build_fault.NoMemory = []

-- the fault of the upgrade with this number
abbrev pub upgrade_text : ℕ → List ℕ → List ℕ
upgrade_text u text = codes "upgrade " ++ (decimal u ++ (32 ∷ text))

-- ---- modules

-- the statement of a text, or the text of its fault
abbrev pub or_text : ℕ → List ℕ → Result Stmt StmtFault → Result Stmt (List ℕ)
or_text number text (Ok stmt) = Ok stmt
or_text number text (Err fault) = Err (fault_text number text fault)

-- the statements of the modules from this number on
abbrev pub statements_from : ℕ → List (List ℕ) → Result (List Stmt) (List ℕ)
statements_from number [] = Ok []
statements_from number (text ∷ texts) =
    or_text number text (read text) >>= (λ stmt. statements_from (number + 1) texts >>= (λ stmts. Ok (stmt ∷ stmts)))

-- the result of building, or the text of the fault
abbrev pub in_words : {A : Type 0} → Result A BuildFault → Result A (List ℕ)
in_words (Ok made) = Ok made
in_words (Err fault) = Err (build_text fault)

-- The texts are read first, in their order, and the first fault of a text is returned; then the schema is built.
abbrev pub table_of : List (List ℕ) → Result SchemaTable (List ℕ)
table_of texts = statements_from 0 texts >>= (λ stmts. in_words (build stmts))

-- ---- results of functions

-- the fault has this text, unless memory ran out
abbrev pub IsTold : List ℕ → SchemaFault → Type 0
IsTold text (Bad words) = words ≡ text
IsTold text NoMemory = Unit {0}

-- the fault is that of the definition, unless memory ran out
abbrev pub IsFaultOf : {Y : Type 0} → Result Y (List ℕ) → SchemaFault → Type 0
IsFaultOf made (Bad text) = made ≡ Err text
IsFaultOf made NoMemory = Unit {0}

-- the result, seen by `view`, or its fault, unless memory ran out
abbrev pub Makes : {X Y : Type 0} → (X → Y) → Result X SchemaFault → Result Y (List ℕ) → Type 0
Makes view result made = MatchResult result (λ x. made ≡ Ok (view x)) (IsFaultOf made)

-- the text of this fault of the upgrade with this number, unless memory ran out
abbrev pub IsOfUpgrade : ℕ → SchemaFault → SchemaFault → Type 0
IsOfUpgrade u (Bad text) result = IsTold (upgrade_text u text) result
IsOfUpgrade u NoMemory result = result ≡ NoMemory
