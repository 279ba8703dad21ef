-- Indexes for look-ups in all modules.
use Rattle.std.specs.Prelude.{◌≡◌, ℕ, ◌<◌, ◌+◌, ◌^◌, Bool, ◌&&◌, List, length, filter, option_map, slice_index_or}
use Rattle.std.specs.List.{position_from}
use Rattle.sal_stmt.specs.declared.stmt.Stmt.{Stmt}
use Rattle.sal_module.specs.declared.keyword.Keyword.TheVariants as word
use Rattle.sal_module.specs.Keywords.{same}
use Rattle.sal_module.specs.Statements.{is_named, argument_of}
use Rattle.sal_typedefs.specs.Scopes.{identity_in}
use Rattle.sal_typedefs.specs.Names.{steps_of}
use Rattle.sal_typedefs.specs.Blocks.{Numbers, get_by_name}

abbrev pub identities_among : List Stmt → List Stmt
identities_among subs = filter (is_named word.Identity) subs

abbrev pub is_identity_of : List ℕ → Stmt → Bool
is_identity_of name stmt = is_named word.Identity stmt && same (argument_of stmt) name

-- the first identity of each name among these statements, counted from a number on
abbrev pub AreNumbered : ℕ → List Stmt → Numbers → Type 0
AreNumbered start subs names =
    (q : List ℕ) → get_by_name names q ≡ option_map (λ i. start + i) (position_from (λ one. same (argument_of one) q) 0 (identities_among subs))

-- the number of each identity, by module and name
pub record AreIdentities (modules : List Stmt) (names : List Numbers) : Type 0 where
  pub count : length names ≡ length modules
  pub each : (m : ℕ) (d : Numbers) (e : Stmt) → m < length modules → (q : List ℕ) → get_by_name (slice_index_or names m d) q ≡ identity_in modules q m (slice_index_or modules m e)

-- the block of each module, the identities, and the largest number of steps of a path: fewer than 2^32, as there are so few statements
pub record AreReady (modules blocks : List Stmt) (maps : List Numbers) (count : ℕ) : Type 0 where
  pub tops : blocks ≡ modules
  pub names : AreIdentities modules maps
  pub steps : count ≡ steps_of modules
  pub few : steps_of modules < 2 ^ 32
