-- Statements with the statements around them, and what names refer to (RFC 7950 sections 5.5, 6.2.1 and 6.4.1).
use Rattle.std.specs.Prelude.{ℕ, zero, suc, ◌+◌, Bool, ◌&&◌, ◌==◌, nat_lt, List, [], ◌∷◌, length, take, drop, find, Option, Some, None, is_some, option_map, option_and_then, if◌then◌else◌}
use Rattle.std.specs.List.{slice_get, sum_by, position_from}
use Rattle.std.specs.Option.{option_to_list}
use Rattle.sal_stmt.specs.declared.stmt.Stmt.{Stmt, out-Stmt}
use Rattle.sal_stmt.specs.Words.{colon_at}
use Rattle.sal_module.specs.declared.keyword.Keyword.TheVariants as word
use Rattle.sal_module.specs.Keywords.{same}
use Rattle.sal_module.specs.Statements.{is_named, subs_of, all_named, argument_of}
use Rattle.sal_module.specs.Places.{find_first}
use Rattle.sal_module.specs.Modules.{imported}

-- a statement of a module, and the statements around it, from the innermost outwards
pub record Site : Type 0 where
  pub «module» : ℕ
  pub stmt : Stmt
  pub around : List Stmt

-- a statement in the block of another
abbrev pub within : Site → Stmt → Site
within site sub = record { «module» = site.module; stmt = sub; around = site.stmt ∷ site.around }

abbrev pub place_of : Site → ℕ
place_of site = (out-Stmt site.stmt).at

abbrev pub is_same : Site → Site → Bool
is_same a b = a.module == b.module && place_of a == place_of b

-- the statement at an offset, among a statement and those in `levels` levels below it
unfoldable pub way_to : ℕ → ℕ → Site → Option Site
way_to zero at site = if place_of site == at then Some site else None
way_to (suc levels) at site = if place_of site == at then Some site else find_first (λ sub. way_to levels at (within site sub)) (subs_of site.stmt)

abbrev pub top : ℕ → Stmt → Site
top m stmt = record { «module» = m; stmt = stmt; around = [] }

abbrev pub site_at : List Stmt → ℕ → ℕ → Option Site
site_at modules m at = option_and_then (λ stmt. way_to 64 at (top m stmt)) (slice_get modules m)

-- ---- names

abbrev pub is_prefixed : List ℕ → Bool
is_prefixed name = nat_lt (colon_at name) (length name)

-- a name without its prefix
abbrev pub local : List ℕ → List ℕ
local name = if is_prefixed name then drop (colon_at name + 1) name else name

-- the module that a name in a module refers to: that module, or the one that the prefix names there
abbrev pub module_of : List Stmt → ℕ → List ℕ → Option ℕ
module_of modules m name = if is_prefixed name then imported modules m (take (colon_at name) name) else Some m

-- ---- typedefs

abbrev pub is_typedef_of : List ℕ → Stmt → Bool
is_typedef_of name stmt = is_named word.Typedef stmt && same (argument_of stmt) name

-- the typedef of a name in the closest of these blocks that has one
abbrev pub closest : ℕ → List ℕ → List Stmt → Option Site
closest m name [] = None
closest m name (block ∷ outer) =
    if is_some (find (is_typedef_of name) (subs_of block))
    then option_map (λ stmt. record { «module» = m; stmt = stmt; around = block ∷ outer }) (find (is_typedef_of name) (subs_of block))
    else closest m name outer

-- In its own module all blocks around the site are searched, in another one only its top.
abbrev pub blocks_of : List Stmt → Site → ℕ → List Stmt
blocks_of modules site m = if m == site.module then site.around else option_to_list (slice_get modules m)

abbrev pub typedef_of : List Stmt → Site → List ℕ → Option Site
typedef_of modules site name = option_and_then (λ m. closest m (local name) (blocks_of modules site m)) (module_of modules site.module name)

-- ---- identities

abbrev pub identities_of : Stmt → List Stmt
identities_of stmt = all_named word.Identity stmt

-- Identities are numbered over all modules, in the order of their texts.
abbrev pub identity_in : List Stmt → List ℕ → ℕ → Stmt → Option ℕ
identity_in modules name m stmt =
    option_map (λ i. sum_by (λ one. length (identities_of one)) (take m modules) + i) (position_from (λ one. same (argument_of one) name) 0 (identities_of stmt))

abbrev pub identity_of : List Stmt → ℕ → List ℕ → Option ℕ
identity_of modules m name =
    option_and_then (λ k. option_and_then (identity_in modules (local name) k) (slice_get modules k)) (module_of modules m name)
