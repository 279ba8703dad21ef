-- Modules for the examples, and their nodes.
use Rattle.std.specs.Prelude.{ℕ, List, [], ◌∷◌, Option, Result, Ok, Err}
use Prim.Native.String.{String}
use Rattle.sal_stmt.specs.declared.stmt.Stmt.{Stmt}
use Rattle.sal_module.specs.declared.fault.BuildFault.{BuildFault}
use Rattle.sal_module.specs.declared.fault.Cause.{Cause}
use Rattle.sal_module.specs.Examples.{plain}
use Rattle.sal_module.specs.Faults.{fault}
use Rattle.sal_grouping.specs.declared.forest.Branch.{Branch}
use Rattle.sal_grouping.specs.declared.forest.Implied.{Implied}

-- one module with these statements
abbrev pub of_module : List Stmt → List Stmt
of_module subs = plain "module" 0 "m" subs ∷ []

abbrev pub leaf : ℕ → String → Stmt
leaf at name = plain "leaf" at name []

-- a node of that module: its parent, the offset of its statement, and its implied kind
abbrev pub branch : Option ℕ → ℕ → Option Implied → Branch
branch parent at implied = record { parent = parent; «module» = 0; source = 0; at = at; implied = implied }

abbrev pub nodes : List Branch → Result (List Branch) BuildFault
nodes forest = Ok forest

abbrev pub refused : Cause → ℕ → Result (List Branch) BuildFault
refused cause at = Err (fault 0 at cause)

-- ---- the modules

abbrev pub a_uses : List Stmt
a_uses = of_module (plain "grouping" 10 "g" (leaf 20 "a" ∷ []) ∷ plain "uses" 30 "g" [] ∷ [])

-- the inner grouping is used
abbrev pub a_shadow : List Stmt
a_shadow = of_module (plain "grouping" 10 "g" (leaf 20 "a" ∷ []) ∷ plain "container" 30 "c" (plain "uses" 35 "g" [] ∷ plain "grouping" 40 "g" (leaf 50 "b" ∷ []) ∷ []) ∷ [])

abbrev pub a_choice : List Stmt
a_choice = of_module (plain "choice" 10 "c" (leaf 20 "a" ∷ plain "case" 30 "b" (leaf 40 "b" ∷ []) ∷ []) ∷ [])

abbrev pub an_rpc : List Stmt
an_rpc = of_module (plain "rpc" 10 "r" (plain "output" 20 "" (leaf 30 "a" ∷ []) ∷ []) ∷ [])

-- the second augment makes the target of the first
abbrev pub two_augments : List Stmt
two_augments = of_module (plain "container" 10 "c" [] ∷ plain "augment" 20 "/c/d" (leaf 30 "x" ∷ []) ∷ plain "augment" 40 "/c" (plain "container" 50 "d" [] ∷ []) ∷ [])

abbrev pub a_cycle : List Stmt
a_cycle = of_module (plain "grouping" 10 "g" (plain "uses" 20 "g" [] ∷ []) ∷ [])

-- only the first grouping uses itself, through the second
abbrev pub a_detour : List Stmt
a_detour = of_module (plain "grouping" 10 "f" (plain "uses" 20 "g" [] ∷ []) ∷ plain "grouping" 30 "g" (plain "uses" 40 "h" [] ∷ []) ∷ plain "grouping" 50 "h" (plain "uses" 60 "g" [] ∷ []) ∷ [])

abbrev pub an_unknown_uses : List Stmt
an_unknown_uses = of_module (plain "uses" 10 "h" [] ∷ [])

abbrev pub an_unknown_prefix : List Stmt
an_unknown_prefix = of_module (plain "augment" 10 "/q:c" [] ∷ [])

abbrev pub two_groupings : List Stmt
two_groupings = of_module (plain "grouping" 10 "g" [] ∷ plain "typedef" 20 "g" [] ∷ plain "grouping" 30 "g" [] ∷ [])

abbrev pub no_target : List Stmt
no_target = of_module (leaf 10 "a" ∷ plain "augment" 20 "/a" (leaf 30 "b" ∷ []) ∷ [])

-- the choice is not part of the scope
abbrev pub two_children : List Stmt
two_children = of_module (plain "choice" 10 "a" (leaf 20 "a" ∷ []) ∷ leaf 30 "a" ∷ [])
