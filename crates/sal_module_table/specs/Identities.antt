-- Identities and the identities from which they are derived (RFC 7950 section 7.18).
use Rattle.std.specs.Prelude.{ℕ, zero, suc, ◌+◌, ◌<◌, ◌^◌, ◌==◌, All, List, [], ◌∷◌, ◌++◌, map, fold, length, Option, Some, is_none, slice_index_or, if◌then◌else◌}
use Rattle.std.specs.List.{flat_map, list_any, enumerate_from}
use Rattle.std.specs.Option.{option_to_list}
use Rattle.sal_stmt.specs.declared.stmt.Stmt.{Stmt}
use Rattle.sal_module.specs.declared.keyword.Keyword.TheVariants as word
use Rattle.sal_module.specs.declared.fault.Cause.TheVariants.{UnknownName, NameCycle}
use Rattle.sal_module.specs.declared.fault.Found.{Found}
use Rattle.sal_module.specs.Statements.{is_named, subs_of, argument_of}
use Rattle.sal_module.specs.Profile.{at_stmt}
use Rattle.sal_grouping.specs.Names.{reaches_home}
use Rattle.sal_schema.specs.declared.table.IdentityInfo.{IdentityInfo}
use Rattle.std.specs.Borrow.{Bor}
use Rattle.sal_typedefs.specs.Scopes.{identity_of}

-- ---- the list of identities

-- an identity: its module and its statement
abbrev pub Identity : Type 0
Identity = ℕ × Stmt

abbrev pub identity_here : ℕ → Stmt → List Identity
identity_here m sub = if is_named word.Identity sub then (m, sub) ∷ [] else []

abbrev pub identities_in : ℕ → Stmt → List Identity
identities_in m stmt = flat_map (identity_here m) (subs_of stmt)

-- in the order of modules and texts
abbrev pub identities_of : List Stmt → List Identity
identities_of stmts = flat_map (λ (entry : ℕ × Stmt). identities_in entry.0 entry.1) (enumerate_from 0 stmts)

-- the identities that the `base` statements of one name
abbrev pub bases_in : List Stmt → ℕ → Stmt → List ℕ
bases_in stmts m sub = if is_named word.Base sub then option_to_list (identity_of stmts m (argument_of sub)) else []

abbrev pub bases_of : List Stmt → Identity → List ℕ
bases_of stmts one = flat_map (bases_in stmts one.0) (subs_of one.1)

abbrev pub Edges : Type 0
Edges = List (List ℕ)

abbrev pub edges_of : List Stmt → List (List ℕ)
edges_of stmts = map (bases_of stmts) (identities_of stmts)

-- ---- the identities from which one is derived

-- each number once, at its first occurrence
abbrev pub with_number : List ℕ → ℕ → List ℕ
with_number out k = if list_any (λ j. j == k) out then out else out ++ k ∷ []

abbrev pub once : List ℕ → List ℕ
once numbers = fold with_number [] numbers

-- bases, each with the identities from which it is derived
abbrev pub joined : (ℕ → List ℕ) → List ℕ → List ℕ
joined above bases = once (flat_map (λ base. base ∷ above base) bases)

-- Its bases, and the identities from which they are derived, in at most n steps. A path without a cycle visits no identity twice.
unfoldable pub derived : ℕ → List (List ℕ) → ℕ → List ℕ
derived zero edges i = []
derived (suc n) edges i = joined (derived n edges) (slice_index_or edges i [])

abbrev pub derived_from : List (List ℕ) → ℕ → List ℕ
derived_from edges i = derived (length edges) edges i

abbrev pub info_of : List (List ℕ) → ℕ → Identity → IdentityInfo
info_of edges i one = record { name = argument_of one.1; «module» = one.0; derived_from = derived_from edges i }

abbrev pub infos_from : List (List ℕ) → ℕ → List Identity → List IdentityInfo
infos_from edges i [] = []
infos_from edges i (one ∷ rest) = info_of edges i one ∷ infos_from edges (i + 1) rest

abbrev pub infos_of : List Stmt → List IdentityInfo
infos_of stmts = infos_from (edges_of stmts) 0 (identities_of stmts)

-- ---- faults

-- a base that is no identity, and one through which the identity around it is derived from itself
abbrev pub target_faults : List (List ℕ) → ℕ → ℕ → Stmt → Option ℕ → List Found
target_faults edges i m sub target =
    (if is_none target then at_stmt UnknownName m sub else [])
    ++ (if reaches_home edges (length edges) (Some i) target then at_stmt NameCycle m sub else [])

abbrev pub base_faults : List Stmt → List (List ℕ) → ℕ → ℕ → Stmt → List Found
base_faults stmts edges i m sub = if is_named word.Base sub then target_faults edges i m sub (identity_of stmts m (argument_of sub)) else []

abbrev pub faults_of : List Stmt → List (List ℕ) → ℕ → Identity → List Found
faults_of stmts edges i one = flat_map (base_faults stmts edges i one.0) (subs_of one.1)

abbrev pub all_faults : List Stmt → List Found
all_faults stmts = flat_map (λ (entry : ℕ × Identity). faults_of stmts (edges_of stmts) entry.0 entry.1) (enumerate_from 0 (identities_of stmts))

-- ---- the code's form

-- Each list has numbers of 32 bits.
abbrev pub AreSmall : List (List ℕ) → Type 0
AreSmall edges = (i : ℕ) → All (λ k. k < 2 ^ 32) (slice_index_or edges i [])

-- statements with their modules
abbrev pub seen : List (ℕ × Bor Stmt) → List Identity
seen all = map (λ (one : ℕ × Bor Stmt). (one.0, one.1.now)) all
