-- The types of all statements and nodes, and their faults.
use Rattle.std.specs.Prelude.{ℕ, zero, suc, Bool, ◌&&◌, not, List, [], ◌∷◌, ◌++◌, is_some, if◌then◌else◌}
use Rattle.std.specs.List.{flat_map, enumerate_from}
use Rattle.sal_stmt.specs.declared.stmt.Stmt.{Stmt, out-Stmt}
use Rattle.sal_module.specs.declared.keyword.Keyword.TheVariants as word
use Rattle.sal_module.specs.declared.fault.Found.{Found}
use Rattle.sal_module.specs.Keywords.{keyword_of}
use Rattle.sal_module.specs.Statements.{is_named, subs_of}
use Rattle.sal_typedefs.specs.Scopes.{Site, within, top}
use Rattle.sal_typedefs.specs.Names as names
use Rattle.sal_typedefs.specs.Names.{steps_of}
use Rattle.sal_typedefs.specs.Types.{judgement}
use Rattle.sal_module_table.specs.declared.types.Asked.{Asked}
use Rattle.sal_module_table.specs.declared.types.Asked.TheVariants as asked

-- ---- all type statements

-- A statement whose keyword the profile has, and that is no extension: the content of others has no meaning.
abbrev pub is_read : Stmt → Bool
is_read stmt = is_some (keyword_of (out-Stmt stmt).keyword) && not (is_named word.Extension stmt)

abbrev pub type_here : Site → List Site
type_here site = if is_named word.Type site.stmt then site ∷ [] else []

-- the type statements among a statement and those in `levels` levels below it
unfoldable pub types_in : ℕ → Site → List Site
types_in zero site = if is_read site.stmt then type_here site else []
types_in (suc levels) site = if is_read site.stmt then type_here site ++ flat_map (λ sub. types_in levels (within site sub)) (subs_of site.stmt) else []

-- Blocks are nested at most 64 deep.
abbrev pub types_of : List Stmt → List Site
types_of stmts = flat_map (λ (entry : ℕ × Stmt). types_in 64 (top entry.0 entry.1)) (enumerate_from 0 stmts)

-- ---- their faults

-- of one type statement: those of its names, or those of restrictions and patterns in it and in all that it depends on
abbrev pub faults_at : Asked → List Stmt → Site → List Found
faults_at asked.Names stmts site = names.name_faults (steps_of stmts) stmts site
faults_at asked.Others stmts site = (judgement stmts site).faults

abbrev pub name_faults : List Stmt → List Found
name_faults stmts = flat_map (faults_at asked.Names stmts) (types_of stmts)

-- Those of a type occur again at each type that depends on it, which changes nothing: only the least is used.
abbrev pub other_faults : List Stmt → List Found
other_faults stmts = flat_map (faults_at asked.Others stmts) (types_of stmts)

abbrev pub faults_of : Asked → List Stmt → List Found
faults_of which stmts = flat_map (faults_at which stmts) (types_of stmts)

-- of the type statements here, and in at most this many levels
abbrev pub faults_here : Asked → List Stmt → Site → List Found
faults_here which stmts site = flat_map (faults_at which stmts) (type_here site)

abbrev pub faults_in : Asked → ℕ → List Stmt → Site → List Found
faults_in which levels stmts site = flat_map (faults_at which stmts) (types_in levels site)
