-- Modules by name, and their imports.
use Rattle.std.specs.Prelude.{ℕ, zero, suc, Bool, true, false, ◌||◌, ◌==◌, List, [], ◌∷◌, ◌++◌, map, fold, find, take, slice_index_or, Option, Some, None, option_map, is_none, if◌then◌else◌, Vec}
use Rattle.std.specs.List.{flat_map, list_any, enumerate_from, position}
use Rattle.std.specs.declared.alloc.Global.{Global}
use Rattle.sal_stmt.specs.declared.stmt.Stmt.{Stmt}
use Rattle.sal_module.specs.declared.keyword.Keyword.TheVariants as word
use Rattle.sal_module.specs.declared.fault.Cause.TheVariants.{BadArgument, NoModule, ImportCycle, DoubleNode}
use Rattle.sal_module.specs.declared.fault.Found.{Found}
use Rattle.sal_module.specs.Keywords.{same}
use Rattle.sal_module.specs.Statements.{is_named, subs_of, argument_of, value_of, all_named}
use Rattle.sal_module.specs.Profile.{at_stmt}

-- ---- names

-- the prefix of a module, and the prefix that an import gives its module
abbrev pub prefix_of : Stmt → List ℕ
prefix_of stmt = value_of word.Prefix stmt

abbrev pub imports_of : Stmt → List Stmt
imports_of stmt = all_named word.Import stmt

abbrev pub first_import : Stmt → Option Stmt
first_import stmt = find (is_named word.Import) (subs_of stmt)

abbrev pub has_name : List ℕ → Stmt → Bool
has_name name stmt = same (argument_of stmt) name

-- the index of the first module of this name
abbrev pub place_of : List Stmt → List ℕ → Option ℕ
place_of stmts name = position (has_name name) stmts

-- a prefix, and the module that it names, if it was given
abbrev pub Named : Type 0
Named = List ℕ × Option ℕ

abbrev pub named_import : List Stmt → Stmt → Named
named_import stmts one = (prefix_of one, place_of stmts (argument_of one))

-- the prefixes of a module: its own prefix, and those of its imports
abbrev pub named_prefixes : List Stmt → ℕ → Stmt → List Stmt → List Named
named_prefixes stmts m stmt imports = (prefix_of stmt, Some m) ∷ map (named_import stmts) imports

-- the module of the first of these prefixes that equals this text
abbrev pub find_named : List Named → List ℕ → Option (Option ℕ)
find_named names prefix = option_map (λ (n : Named). n.1) (find (λ (n : Named). same prefix n.0) names)

-- ---- faults of names

-- a module whose name an earlier one has
abbrev pub name_faults : List Stmt → ℕ → Stmt → List Found
name_faults stmts m stmt = if list_any (has_name (argument_of stmt)) (take m stmts) then at_stmt DoubleNode m stmt else []

-- imports whose prefix is used before
abbrev pub prefix_faults : ℕ → List (List ℕ) → List Stmt → List Found
prefix_faults m before [] = []
prefix_faults m before (one ∷ imports) =
    (if list_any (same (prefix_of one)) before then at_stmt BadArgument m one else []) ++ prefix_faults m (before ++ prefix_of one ∷ []) imports

-- an import of a module that was not given
abbrev pub given_faults : List Stmt → ℕ → Stmt → List Found
given_faults stmts m one = if is_none (place_of stmts (argument_of one)) then at_stmt NoModule m one else []

-- ---- cycles

abbrev pub with_new : List ℕ → Option ℕ → List ℕ
with_new out None = out
with_new out (Some k) = if list_any (λ j. j == k) out then out else out ++ k ∷ []

-- the modules that a module imports, each once
abbrev pub imported_modules : List Stmt → List Stmt → List ℕ
imported_modules stmts imports = fold (λ out one. with_new out (place_of stmts (argument_of one))) [] imports

abbrev pub edges_of : List Stmt → List (List ℕ)
edges_of stmts = map (λ stmt. imported_modules stmts (imports_of stmt)) stmts

abbrev pub is_step : List Bool → ℕ → ℕ → Bool
is_step marks target k = k == target || slice_index_or marks k false

-- one of these modules is the target, or reaches it within n imports
unfoldable pub reaches : List (List ℕ) → ℕ → ℕ → List ℕ → Bool
reaches edges zero target out = list_any (λ k. k == target) out
reaches edges (suc n) target out = list_any (λ k. k == target || reaches edges n target (slice_index_or edges k [])) out

-- A shortest way from a module back to itself visits no module twice, so with 64 modules it has at most 64 imports.
abbrev pub is_in_cycle : List (List ℕ) → ℕ → Bool
is_in_cycle edges m = slice_index_or (map (reaches edges 64 m) edges) m false

-- The fault is at the first import.
abbrev pub cycle_faults : Bool → ℕ → Option Stmt → List Found
cycle_faults true m (Some first) = at_stmt ImportCycle m first
cycle_faults in_cycle m first = []

-- ---- all of them

abbrev pub import_faults : List Stmt → ℕ → Stmt → List Found
import_faults stmts m stmt =
    name_faults stmts m stmt ++ prefix_faults m (prefix_of stmt ∷ []) (imports_of stmt)
    ++ flat_map (given_faults stmts m) (imports_of stmt) ++ cycle_faults (is_in_cycle (edges_of stmts) m) m (first_import stmt)

-- of all modules, numbered from 0
abbrev pub graph_faults : List Stmt → List Found
graph_faults stmts = flat_map (λ (m, stmt). import_faults stmts m stmt) (enumerate_from 0 stmts)

-- the code's vectors as lists of lists
abbrev pub plain : List (Vec ℕ Global) → List (List ℕ)
plain edges = map (λ out. out.items) edges
