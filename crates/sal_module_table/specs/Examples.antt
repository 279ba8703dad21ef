-- Modules for the examples, with their forests.
use Rattle.std.specs.Prelude.{ℕ, List, [], ◌∷◌, Option, Some, None, codes}
use Prim.Native.String.{String}
use Rattle.sal_stmt.specs.declared.stmt.Stmt.{Stmt}
use Rattle.sal_module.specs.declared.fault.Found.{Found}
use Rattle.sal_module.specs.Examples.{plain}
use Rattle.sal_module.specs.Faults.{least}
use Rattle.sal_grouping.specs.declared.forest.Branch.{Branch}
use Rattle.sal_grouping.specs.Examples.{of_module, leaf, branch}
use Rattle.sal_restrict.specs.declared.yang_type.YangType.{YangType, roll-YangType}
use Rattle.sal_restrict.specs.declared.yang_type.YangType.TheOpen.{YangType-F}
use Rattle.sal_module_table.specs.Filled.{empty}
use Rattle.sal_module_table.specs.Lists as lists
use Rattle.sal_module_table.specs.Identities as identities
use Rattle.sal_module_table.specs.OldBases as old_bases

-- a list at 10 with this statement at 12 and a leaf `k` at 20
abbrev pub a_list : Stmt → List Stmt
a_list stmt = of_module (plain "list" 10 "l" (stmt ∷ leaf 20 "k" ∷ []) ∷ [])

abbrev pub its_forest : List Branch
its_forest = branch None 10 None ∷ branch (Some 0) 20 None ∷ []

-- the first fault of keys and config
abbrev pub list_fault : List Stmt → List Branch → Option Found
list_fault stmts forest = least None (lists.all_faults stmts forest)

abbrev pub key_of : String → List Stmt
key_of names = a_list (plain "key" 12 names [])

-- configuration under state data
abbrev pub a_state : List Stmt
a_state = of_module (plain "container" 10 "c" (plain "config" 12 "false" [] ∷ plain "leaf" 20 "a" (plain "config" 22 "true" [] ∷ []) ∷ []) ∷ [])

-- an identity at 10 with a base, and one at 20
abbrev pub two_identities : String → String → List Stmt
two_identities first second =
    of_module (plain "identity" 10 "a" (plain "base" 12 first [] ∷ []) ∷ plain "identity" 20 "b" (plain "base" 22 second [] ∷ []) ∷ [])

abbrev pub identity_fault : List Stmt → Option Found
identity_fault stmts = least None (identities.all_faults stmts)

-- a union of a leafref and an empty leaf, the leafref with a union of this type for its target
abbrev pub path_and_empty : YangType
path_and_empty = roll-YangType (YangType-F.Union (roll-YangType (YangType-F.Leafref (codes "../a")) ∷ empty ∷ []))

abbrev pub union_of : YangType → YangType
union_of member = roll-YangType (YangType-F.Union (member ∷ []))

abbrev pub boolean : YangType
boolean = roll-YangType YangType-F.Bool

-- an old module with an identity, and a new one whose identity has this base
abbrev pub kinds : Stmt
kinds = plain "module" 0 "kinds" (plain "prefix" 2 "k" [] ∷ plain "identity" 10 "kind" [] ∷ [])

abbrev pub more_kinds : String → Stmt
more_kinds base =
    plain "module" 0 "more"
    (plain "prefix" 2 "m" [] ∷ plain "import" 10 "kinds" (plain "prefix" 12 "k" [] ∷ []) ∷ plain "identity" 20 "root" [] ∷ plain "identity" 30 "router" (plain "base" 32 base [] ∷ []) ∷ [])

-- the first base of both modules that names an identity of the first `old` modules
abbrev pub old_base : ℕ → String → Option Found
old_base old base = least None (old_bases.all_faults old (kinds ∷ more_kinds base ∷ []))
