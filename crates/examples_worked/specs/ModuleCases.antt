-- Modules, and look-ups in them.
use Rattle.std.specs.Prelude.{ℕ, zero, suc, ◌+◌, List, [], ◌∷◌, ◌++◌, Option, Some, None}
use Prim.Native.String.{String}
use Rattle.sal_stmt.specs.declared.stmt.Stmt.{Stmt}
use Rattle.examples_worked.specs.Trees.{plain}

-- ---- `module m { namespace u; prefix p; container c { leaf a { type string; } } }`

abbrev pub namespace : Stmt
namespace = plain "namespace" 11 "u" []

abbrev pub prefix : Stmt
prefix = plain "prefix" 24 "p" []

abbrev pub type : Stmt
type = plain "type" 57 "string" []

abbrev pub leaf : Stmt
leaf = plain "leaf" 48 "a" (type ∷ [])

abbrev pub container : Stmt
container = plain "container" 34 "c" (leaf ∷ [])

abbrev pub written : Stmt
written = plain "module" 0 "m" (namespace ∷ prefix ∷ container ∷ [])

-- its statements in reverse order
abbrev pub turned : Stmt
turned = plain "module" 0 "m" (container ∷ prefix ∷ namespace ∷ [])

-- ---- offsets

abbrev pub at_place : ℕ → Option Stmt → List (ℕ × Stmt)
at_place at None = []
at_place at (Some stmt) = (at, stmt) ∷ []

-- the results of a look-up at n offsets from one on
abbrev pub places : (ℕ → Option Stmt) → ℕ → ℕ → List (ℕ × Stmt)
places find at zero = []
places find at (suc n) = at_place at (find at) ++ places find (at + 1) n

-- the module and the statements in it, with their offsets
abbrev pub standing : Stmt → List (ℕ × Stmt)
standing whole = (0, whole) ∷ (11, namespace) ∷ (24, prefix) ∷ (34, container) ∷ (48, leaf) ∷ (57, type) ∷ []

-- ---- `module c`, `module a` that imports b, and `module b`

abbrev pub named : String → List Stmt → Stmt
named name imports = plain "module" 0 name (plain "namespace" 11 "u" [] ∷ plain "prefix" 24 name [] ∷ imports)

abbrev pub three : List Stmt
three = named "c" [] ∷ named "a" (plain "import" 34 "b" (plain "prefix" 45 "b" [] ∷ []) ∷ []) ∷ named "b" [] ∷ []
