-- Bases that a later version must not have: a `base` in an identity of a new module that names an identity of an old module. Without them every value
-- that an old type accepts was accepted before.
use Rattle.std.specs.Prelude.{ℕ, ◌&&◌, nat_lt, nat_le, Bool as Truth, false, List, [], Option, Some, None, if◌then◌else◌}
use Rattle.std.specs.List.{flat_map, slice_get}
use Rattle.std.specs.Option.{option_map_or}
use Rattle.sal_stmt.specs.declared.stmt.Stmt.{Stmt}
use Rattle.sal_module.specs.declared.keyword.Keyword.TheVariants as word
use Rattle.sal_module.specs.declared.fault.Cause.TheVariants.{OldIdentity}
use Rattle.sal_module.specs.declared.fault.Found.{Found}
use Rattle.sal_module.specs.Statements.{is_named, subs_of, argument_of}
use Rattle.sal_module.specs.Profile.{at_stmt}
use Rattle.sal_typedefs.specs.Scopes.{identity_of}
use Rattle.sal_module_table.specs.Identities.{Identity, identities_of}

-- Whether this number is that of an identity of an old module. The old modules are those before index `old`.
abbrev pub is_old : ℕ → List Identity → Option ℕ → Truth
is_old old all None = false
is_old old all (Some i) = option_map_or (λ (one : Identity). nat_lt one.0 old) (slice_get all i) false

abbrev pub base_faults : ℕ → List Stmt → List Identity → ℕ → Stmt → List Found
base_faults old stmts all m sub =
    if is_named word.Base sub && is_old old all (identity_of stmts m (argument_of sub)) then at_stmt OldIdentity m sub else []

-- of an identity of a new module
abbrev pub faults_of : ℕ → List Stmt → List Identity → Identity → List Found
faults_of old stmts all one = if nat_le old one.0 then flat_map (base_faults old stmts all one.0) (subs_of one.1) else []

abbrev pub all_faults : ℕ → List Stmt → List Found
all_faults old stmts = flat_map (faults_of old stmts (identities_of stmts)) (identities_of stmts)
