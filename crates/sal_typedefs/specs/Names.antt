-- The names in a type statement and in those that it depends on, and their faults.
use Rattle.std.specs.Prelude.{ℕ, zero, suc, ◌+◌, Bool, not, ◌&&◌, ◌==◌, nat_lt, List, [], ◌∷◌, ◌++◌, map, filter, find, length, take, drop, Option, Some, None, is_some, is_none, option_map, if◌then◌else◌, codes}
use Rattle.std.specs.List.{flat_map, list_any, list_all, prefix_len, before_first, after_first, slice_split, sum_by}
use Rattle.std.specs.Option.{option_to_list}
use Rattle.sal_stmt.specs.declared.stmt.Stmt.{Stmt}
use Rattle.sal_stmt.specs.Words.{is_keyword}
use Rattle.sal_module.specs.declared.keyword.Keyword.TheVariants as word
use Rattle.sal_module.specs.declared.fault.Cause.TheVariants.{UnknownName, NameCycle}
use Rattle.sal_module.specs.declared.fault.Found.{Found}
use Rattle.sal_module.specs.Keywords.{same}
use Rattle.sal_module.specs.Statements.{is_named, subs_of, all_named, argument_of, value_of}
use Rattle.sal_module.specs.Profile.{at_stmt}
use Rattle.sal_typedefs.specs.Scopes.{Site, within, is_same, module_of, typedef_of, identity_of}
use Rattle.sal_typedefs.specs.Builtins.{builtin_of}

-- ---- dependencies of a type

abbrev pub name_of : Site → List ℕ
name_of site = argument_of site.stmt

abbrev pub is_builtin : Site → Bool
is_builtin site = is_some (builtin_of (name_of site))

-- the typedef that a type statement names
abbrev pub target : List Stmt → Site → Option Site
target modules site = if is_builtin site then None else typedef_of modules site (name_of site)

abbrev pub types_in : Site → List Site
types_in site = map (within site) (all_named word.Type site.stmt)

-- the members of a union, or the type of the typedef
abbrev pub rests_on : List Stmt → Site → List Site
rests_on modules site =
    if is_builtin site then (if same (name_of site) (codes "union") then types_in site else [])
    else flat_map (λ typedef. take 1 (types_in typedef)) (option_to_list (target modules site))

-- a type statement and those that it depends on, in at most `steps` steps
unfoldable pub under : ℕ → List Stmt → Site → List Site
under zero modules site = site ∷ []
under (suc steps) modules site = site ∷ flat_map (under steps modules) (rests_on modules site)

-- the number of statements in `levels` levels: a path without a cycle is no longer
unfoldable pub count : ℕ → Stmt → ℕ
count zero stmt = 1
count (suc levels) stmt = 1 + sum_by (count levels) (subs_of stmt)

abbrev pub steps_of : List Stmt → ℕ
steps_of modules = sum_by (count 64) modules

-- ---- leafrefs

abbrev pub is_leafref : Site → Bool
is_leafref site = same (name_of site) (codes "leafref")

-- those among a type statement and all that it depends on
abbrev pub leafrefs_of : List Stmt → Site → List Site
leafrefs_of modules site = filter is_leafref (under (steps_of modules) modules site)

-- ---- the names of a leafref's path

-- The text in brackets is skipped: of each predicate only the closing bracket remains. A text with an unclosed bracket is no path.
abbrev mutual
  pub outside : List ℕ → Option (List ℕ)
  outside [] = Some []
  outside (c ∷ t) = if c == 91 then inside t else option_map (λ rest. c ∷ rest) (outside t)

  pub inside : List ℕ → Option (List ℕ)
  inside [] = None
  inside (c ∷ t) = if c == 93 then option_map (λ rest. 93 ∷ rest) (outside t) else inside t

-- the name of a step, before its predicates
abbrev pub name_in : List ℕ → List ℕ
name_in step = before_first (λ c. c == 93) step

abbrev pub is_step : List ℕ → Bool
is_step step = is_keyword (name_in step) && list_all (λ c. c == 93) (after_first (λ c. c == 93) step)

abbrev pub is_up : List ℕ → Bool
is_up step = same step (codes "..")

-- how many steps a path goes up: 0 if it begins at the top
abbrev pub count_up : List ℕ → ℕ
count_up path = prefix_len is_up (slice_split (λ c. c == 47) path)

-- Its names begin after an empty step, at the top, or after one or more steps up.
abbrev pub start_of : List (List ℕ) → ℕ
start_of [] = 0
start_of (step ∷ steps) = if length step == 0 then 1 else prefix_len is_up (step ∷ steps)

abbrev pub steps_down : List (List ℕ) → List (List ℕ)
steps_down steps = drop (start_of steps) steps

abbrev pub is_path : List (List ℕ) → Bool
is_path steps = (nat_lt 0 (start_of steps) && nat_lt 0 (length (steps_down steps))) && list_all is_step (steps_down steps)

abbrev pub names_of : List (List ℕ) → List (List ℕ)
names_of steps = if is_path steps then map name_in (steps_down steps) else []

-- its names, if it has the form of a path (RFC 7950 section 9.9.2)
abbrev pub path_names : List ℕ → List (List ℕ)
path_names t = flat_map (λ path. names_of (slice_split (λ c. c == 47) path)) (option_to_list (outside t))

-- ---- faults

-- a name that no typedef has, or with an unknown prefix
abbrev pub unknown_faults : List Stmt → Site → List Found
unknown_faults modules site =
    if not (is_builtin site) && is_none (target modules site) then at_stmt UnknownName site.module site.stmt else []

abbrev pub is_of : List Stmt → Site → Site → Bool
is_of modules typedef site = list_any (is_same typedef) (option_to_list (target modules site))

-- the closest typedef around a statement
abbrev pub typedef_around : Site → Option Stmt
typedef_around site = find (is_named word.Typedef) site.around

-- A name through which the typedef around it depends on itself. A leaf's type is in no typedef.
abbrev pub goes_in_circle : ℕ → List Stmt → Site → Bool
goes_in_circle steps modules site =
    is_some (target modules site)
    && list_any (λ typedef. list_any (is_of modules (record { «module» = site.module; stmt = typedef; around = [] })) (under steps modules site)) (option_to_list (typedef_around site))

abbrev pub cycle_faults : ℕ → List Stmt → Site → List Found
cycle_faults steps modules site = if goes_in_circle steps modules site then at_stmt NameCycle site.module site.stmt else []

-- an identity that no module has, by a `base` of an identityref
abbrev pub base_fault : List Stmt → ℕ → Stmt → List Found
base_fault modules m sub = if is_named word.Base sub && is_none (identity_of modules m (argument_of sub)) then at_stmt UnknownName m sub else []

abbrev pub base_faults : List Stmt → Site → List Found
base_faults modules site = if same (name_of site) (codes "identityref") then flat_map (base_fault modules site.module) (subs_of site.stmt) else []

-- a prefix that no import has, in the path of a leafref
abbrev pub path_faults : List Stmt → Site → List Found
path_faults modules site =
    if is_leafref site && list_any (λ name. is_none (module_of modules site.module name)) (path_names (value_of word.Path site.stmt))
    then at_stmt UnknownName site.module site.stmt else []

abbrev pub name_faults : ℕ → List Stmt → Site → List Found
name_faults steps modules site =
    unknown_faults modules site ++ cycle_faults steps modules site ++ base_faults modules site ++ path_faults modules site
