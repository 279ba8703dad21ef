-- Checked modules, and their look-ups.
use Rattle.std.specs.Prelude.{◌≡◌, ℕ, ◌<◌, ◌^◌, Bool, nat_lt, List, [], length, Option, Some, None, option_and_then, unwrap_or, Result, Ok, Err, String, slice_index_or, if◌then◌else◌}
use Rattle.std.specs.List.{list_all, slice_get}
use Rattle.std.specs.declared.alloc.Global.{Global}
use Rattle.std.specs.BTreeMap.{BTreeMap, get_by_text}
use Rattle.sal_stmt.specs.declared.stmt.Stmt.{Stmt}
use Rattle.sal_module.specs.declared.fault.BuildFault.{BuildFault}
use Rattle.sal_module.specs.declared.fault.BuildFault.TheVariants.{TooMany}
use Rattle.sal_module.specs.declared.fault.What.TheVariants.{Modules}
use Rattle.sal_module.specs.declared.fault.Found.{Found}
use Rattle.sal_module.specs.Faults.{least, fault_of}
use Rattle.sal_module.specs.Profile.{profile_faults}
use Rattle.sal_module.specs.Imports.{Named, find_named, named_prefixes, imports_of, graph_faults}
use Rattle.sal_module.specs.Places.{find_at, is_in_order}

-- ---- which modules pass

-- the first of two faults, if there is one
abbrev pub first_of_two : Option Found → Option Found → Option Found
first_of_two None other = other
first_of_two (Some found) other = Some found

-- The profile is checked first; names and imports only if the profile has no fault.
abbrev pub first_fault : List Stmt → Option Found
first_fault stmts = first_of_two (least None (profile_faults stmts)) (least None (graph_faults stmts))

abbrev pub answer : List Stmt → Option Found → Result (List Stmt) BuildFault
answer stmts None = Ok stmts
answer stmts (Some found) = Err (fault_of found)

abbrev pub check : List Stmt → Result (List Stmt) BuildFault
check stmts = if nat_lt 64 (length stmts) then Err (TooMany Modules) else answer stmts (first_fault stmts)

-- ---- look-ups

-- the statement at an offset of a module
abbrev pub stmt_at : List Stmt → ℕ → ℕ → Option Stmt
stmt_at stmts m at = option_and_then (find_at 64 at) (slice_get stmts m)

-- the prefixes of a module: empty if no module has this index
abbrev pub names_of : List Stmt → ℕ → Option Stmt → List Named
names_of stmts m None = []
names_of stmts m (Some stmt) = named_prefixes stmts m stmt (imports_of stmt)

-- the module that a prefix names in a module
abbrev pub imported : List Stmt → ℕ → List ℕ → Option ℕ
imported stmts m prefix = unwrap_or (find_named (names_of stmts m (slice_get stmts m)) prefix) None

-- ---- indexes of the modules

abbrev pub Prefixes : Type 0
Prefixes = BTreeMap (String Global) (Option ℕ)

-- each of these maps has the prefixes of its module
abbrev pub AreNamed : List Stmt → List Prefixes → Type 0
AreNamed stmts maps = (m : ℕ) (d : Prefixes) (e : Stmt) → m < length maps → (q : List ℕ)
    → get_by_text (slice_index_or maps m d) q ≡ find_named (named_prefixes stmts m (slice_index_or stmts m e) (imports_of (slice_index_or stmts m e))) q

-- one map for each module, and whether all offsets ascend
pub record IsIndexed (stmts : List Stmt) (maps : List Prefixes) (in_order : Bool) : Type 0 where
  pub few : length stmts < 65
  pub count : length maps ≡ length stmts
  pub names : AreNamed stmts maps
  pub order : in_order ≡ list_all (is_in_order 64 (2 ^ 32)) stmts
