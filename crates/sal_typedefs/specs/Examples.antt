-- Names for the examples.
use Rattle.std.specs.Prelude.{ℕ, None, List, [], ◌∷◌, ◌++◌, Option, Some, option_map}
use Prim.Native.String.{String}
use Rattle.sal_stmt.specs.declared.stmt.Stmt.{Stmt}
use Rattle.sal_module.specs.Examples.{plain, found}
use Rattle.sal_restrict.specs.declared.yang_type.YangType.{YangType, roll-YangType}
use Rattle.sal_restrict.specs.declared.yang_type.YangType.TheOpen.{YangType-F}
use Rattle.sal_typedefs.specs.Scopes.{site_at}
use Rattle.sal_module.specs.declared.fault.Found.{Found}
use Rattle.sal_module.specs.declared.fault.Cause.TheVariants.{BadRestriction, UnknownName}
use Rattle.sal_module.specs.Faults.{least}
use Rattle.sal_typedefs.specs.Names.{name_faults}
use Rattle.sal_typedefs.specs.Types.{judge}
pub use Rattle.sal_restrict.specs.Examples.{upto}

-- the module `m`, whose prefix is `p`, with these statements
abbrev pub module_with : List Stmt → Stmt
module_with stmts = plain "module" 0 "m" (plain "prefix" 2 "p" [] ∷ stmts)

abbrev pub type_at : ℕ → String → List Stmt → Stmt
type_at at name subs = plain "type" at name subs

abbrev pub leaf : ℕ → String → Stmt → Stmt
leaf at name type = plain "leaf" at name (type ∷ [])

abbrev pub typedef : ℕ → String → Stmt → Stmt
typedef at name type = plain "typedef" at name (type ∷ [])

abbrev pub enum : ℕ → String → Stmt
enum at name = plain "enum" at name []

-- a port, from 1 to 4096
abbrev pub port : Stmt
port = typedef 20 "port" (type_at 22 "uint16" (plain "range" 24 "1..4096" [] ∷ []))

-- an enumeration of `x` and `y`
abbrev pub letters : Stmt
letters = typedef 20 "letter" (type_at 22 "enumeration" (enum 24 "x" ∷ enum 26 "y" ∷ []))

-- these statements, then a leaf at 30 with this type at 32
abbrev pub with_leaf : List Stmt → String → List Stmt → List Stmt
with_leaf stmts name subs = stmts ++ leaf 30 "a" (type_at 32 name subs) ∷ []

abbrev pub boolean : YangType
boolean = roll-YangType YangType-F.Bool

abbrev pub empty : YangType
empty = roll-YangType YangType-F.Empty

-- the fault of that leaf's type, if all names are defined and it depends on one other type
abbrev pub leaf_fault : List Stmt → String → List Stmt → Option (Option Found)
leaf_fault stmts name subs =
    option_map (λ site. least None (judge 2 (module_with (with_leaf stmts name subs) ∷ []) site).faults) (site_at (module_with (with_leaf stmts name subs) ∷ []) 0 32)

-- and its type
abbrev pub leaf_meaning : List Stmt → String → List Stmt → Option YangType
leaf_meaning stmts name subs =
    option_map (λ site. (judge 3 (module_with (with_leaf stmts name subs) ∷ []) site).type) (site_at (module_with (with_leaf stmts name subs) ∷ []) 0 32)

-- the least fault of names of the type at an offset, in two steps
abbrev pub name_fault : List Stmt → ℕ → Option (Option Found)
name_fault stmts at = option_map (λ site. least None (name_faults 2 (module_with stmts ∷ []) site)) (site_at (module_with stmts ∷ []) 0 at)

abbrev pub unknown : ℕ → Option (Option Found)
unknown at = Some (found UnknownName 0 at)

abbrev pub bad : ℕ → Option (Option Found)
bad at = Some (found BadRestriction 0 at)
