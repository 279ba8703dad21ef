-- Type statements whose judgement is known, with a number of steps in which it is made.
use Rattle.std.specs.Prelude.{◌≡◌, ⊤, ℕ, ◌≤◌, Bool, true, not, nat_lt, List, [], ◌∷◌, map, take, Option, Some, None, IfSome, option_and_then, unwrap_or}
use Rattle.std.specs.BTreeMap.{BTreeMap, get}
use Rattle.std.specs.List.{slice_get, flat_map, list_all}
use Rattle.std.specs.Option.{option_to_list}
use Rattle.std.specs.Ordering.{nat_cmp}
use Rattle.sal_stmt.specs.declared.stmt.Stmt.{Stmt}
use Rattle.sal_module.specs.Statements.{subs_of}
use Rattle.sal_typedefs.specs.declared.kept.Settled.{Settled}
use Rattle.sal_typedefs.specs.declared.kept.Parts.{Parts}
use Rattle.sal_typedefs.specs.Scopes.{Site, place_of}
use Rattle.sal_typedefs.specs.Names.{types_in, steps_of, target, under, is_leafref}
use Rattle.sal_typedefs.specs.Types.{judge}
use Rattle.sal_typedefs.specs.Judgements.{IsJudged, AreJudged}

-- ---- ranks of typedefs

-- of each module the ranks by offset
abbrev pub Ranks : Type 0
Ranks = List (BTreeMap ℕ ℕ)

abbrev pub rank_in : Ranks → ℕ → ℕ → ℕ
rank_in ranks m at = unwrap_or (option_and_then (λ map. get nat_cmp map at) (slice_get ranks m)) 0

abbrev pub rank_of : Ranks → Site → ℕ
rank_of ranks typedef = rank_in ranks typedef.module (place_of typedef)

-- modules, and ranks of their typedefs
pub record World : Type 0 where
  pub modules : List Stmt
  pub ranks : Ranks

-- the typedef that a statement names has a rank below this one
abbrev pub is_low : World → ℕ → Site → Bool
is_low w rank site = list_all (λ typedef. nat_lt (rank_of w.ranks typedef) rank) (option_to_list (target w.modules site))

abbrev pub is_plain : Site → Bool
is_plain site = not (is_leafref site)

-- ---- one type statement

-- More steps give the same judgement. All typedefs that it depends on have ranks below its own, and without leafrefs it is plain.
pub record IsSettled (w : World) (site : Site) (s : Settled) : Type 0 where
  pub few : s.depth ≤ steps_of w.modules
  pub judged : (n : ℕ) → s.depth ≤ n → IsJudged s.judgement (judge n w.modules site)
  pub low : (n : ℕ) → list_all (is_low w s.rank) (under n w.modules site) ≡ true
  pub plain : s.plain ≡ true → (n : ℕ) → list_all is_plain (under n w.modules site) ≡ true

-- the same of those that a statement depends on
pub record AreParts (w : World) (sites : List Site) (p : Parts) : Type 0 where
  pub judged : (n : ℕ) → p.depth ≤ n → AreJudged p.below.items (map (judge n w.modules) sites)
  pub low : (n : ℕ) → list_all (is_low w p.rank) (flat_map (under n w.modules) sites) ≡ true
  pub plain : p.plain ≡ true → (n : ℕ) → list_all is_plain (flat_map (under n w.modules) sites) ≡ true

-- ---- typedefs

-- the type of a typedef, if it has one
abbrev pub IsTypeSettled : World → List Site → Settled → Type 0
IsTypeSettled w [] s = ⊥
IsTypeSettled w (site ∷ sites) s = IsSettled w site s

-- and its own rank is below another one
pub record IsTypedefSettled (w : World) (typedef : Site) (s : Settled) : Type 0 where
  pub type : IsTypeSettled w (take 1 (types_in typedef)) s
  pub own : nat_lt (rank_of w.ranks typedef) s.above ≡ true

abbrev pub IsTargetSettled : World → Option Site → Settled → Type 0
IsTargetSettled w None s = ⊥
IsTargetSettled w (Some typedef) s = IsTypedefSettled w typedef s

-- ---- blocks

abbrev pub Slots : Type 0
Slots = BTreeMap ℕ Settled

-- a statement of a block with the blocks outside
abbrev pub inside : ℕ → Stmt → List Stmt → Stmt → Site
inside m block outer stmt = record { «module» = m; stmt = stmt; around = block ∷ outer }

-- the settled typedefs of a block, by their indexes
abbrev pub AreIn : World → ℕ → Stmt → List Stmt → Slots → Type 0
AreIn w m block outer slots =
    (k : ℕ) (stmt : Stmt) → slice_get (subs_of block) k ≡ Some stmt → IfSome (get nat_cmp slots k) (IsTypedefSettled w (inside m block outer stmt))

-- of the typedef at an index of the first of these blocks
abbrev pub IsAt : World → ℕ → List Stmt → ℕ → Settled → Type 0
IsAt w m blocks k s =
    (block : Stmt) (outer : List Stmt) (stmt : Stmt) → blocks ≡ block ∷ outer → slice_get (subs_of block) k ≡ Some stmt → IsTypedefSettled w (inside m block outer stmt) s

-- of each of these blocks, the innermost first
abbrev pub AreKept : World → ℕ → List Stmt → List Slots → Type 0
AreKept w m [] [] = ⊤
AreKept w m (block ∷ outer) (slots ∷ more) = AreIn w m block outer slots × AreKept w m outer more
AreKept w m blocks kept = ⊥

-- of the module of each number
abbrev pub AreTops : World → List Slots → Type 0
AreTops w tops = (m : ℕ) → AreKept w m (option_to_list (slice_get w.modules m)) (option_to_list (slice_get tops m))
