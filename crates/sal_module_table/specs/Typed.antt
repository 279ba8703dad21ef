-- The type statements of nodes, found by one search through all statements.
use Rattle.std.specs.Prelude.{◌≡◌, ℕ, zero, suc, ◌<◌, Bool, List, [], ◌∷◌, map, find, length, Option, is_some, option_map, if◌then◌else◌, slice_index_or, Vec}
use Rattle.std.specs.declared.alloc.Global.{Global}
use Rattle.std.specs.List.{flat_map, enumerate_from, position_from}
use Rattle.std.specs.BTreeMap.{BTreeMap, get}
use Rattle.std.specs.Ordering.{eq_by_cmp}
use Rattle.std.specs.declared.cmp.Ordering.{Ordering}
use Rattle.sal_stmt.specs.declared.stmt.Stmt.{Stmt}
use Rattle.sal_module.specs.Statements.{subs_of}
use Rattle.sal_restrict.specs.declared.yang_type.YangType.{YangType}
use Rattle.sal_grouping.specs.declared.forest.Branch.{Branch}
use Rattle.sal_grouping.specs.Indexes as indexes
use Rattle.sal_typedefs.specs.Scopes.{Site, within, top, place_of, site_at}
use Rattle.sal_typedefs.specs.declared.leafrefs.Leafref.{Leafref}
use Rattle.sal_typedefs.specs.Leafrefs.{leafref_seen, stmt_in}
use Rattle.sal_module_table.specs.Leafrefs.{type_in, stated_type, stated_leafrefs}
use Rattle.sal_module_table.specs.declared.typed.Place.{Place}
use Rattle.sal_module_table.specs.declared.typed.Typing.{Typing}
use Rattle.sal_module_table.specs.declared.typed.NodeTypes.{NodeTypes}
use Rattle.sal_module_table.specs.contracts.typed.PlaceOrd.TheImpl as place_ord

-- ---- places

abbrev pub place : ℕ → ℕ → Place
place m at = record { source = m; at = at }

abbrev pub place_cmp : Place → Place → Ordering
place_cmp = (place_ord.ghosts).cmp

abbrev pub same_place : Place → Place → Bool
same_place = eq_by_cmp place_cmp

abbrev pub place_at : Site → Place
place_at site = place site.module (place_of site)

abbrev pub place_of_node : Branch → Place
place_of_node b = place b.source b.at

abbrev pub Places : Type 0
Places = BTreeMap Place ℕ

abbrev pub first_of : List Place → Place → Option ℕ
first_of places q = position_from (same_place q) 0 places

abbrev pub AreFirst : List Place → Places → Type 0
AreFirst places map = (q : Place) → get place_cmp map q ≡ first_of places q

abbrev pub is_wanted : Places → Place → Bool
is_wanted wanted q = is_some (get place_cmp wanted q)

-- ---- all statements

-- a statement and those in `levels` levels below it, in the order of the text
unfoldable pub sites : ℕ → Site → List Site
sites zero site = site ∷ []
sites (suc levels) site = site ∷ flat_map (λ sub. sites levels (within site sub)) (subs_of site.stmt)

abbrev pub sites_of : List Stmt → List Site
sites_of stmts = flat_map (λ (entry : ℕ × Stmt). sites 64 (top entry.0 entry.1)) (enumerate_from 0 stmts)

-- ---- the entry for a statement

-- its place, the type in it, and its leafrefs with their modules
pub record Own : Type 0 where
  pub place : Place
  pub type : YangType
  pub leafrefs : List (ℕ × Stmt)

abbrev pub own_with : List Stmt → Place → Option Site → Own
own_with stmts at site = record { place = at; type = stated_type stmts site; leafrefs = map stmt_in (stated_leafrefs stmts site) }

abbrev pub own_at : List Stmt → Site → Own
own_at stmts site = own_with stmts (place_at site) (type_in site)

-- if it is wanted
abbrev pub own_here : Places → List Stmt → Site → List Own
own_here wanted stmts site = if is_wanted wanted (place_at site) then own_at stmts site ∷ [] else []

abbrev pub owns_in : Places → ℕ → List Stmt → Site → List Own
owns_in wanted levels stmts site = flat_map (own_here wanted stmts) (sites levels site)

abbrev pub owns_of : Places → List Stmt → List Own
owns_of wanted stmts = flat_map (own_here wanted stmts) (sites_of stmts)

-- in the code's form
abbrev pub own_of : Typing → Own
own_of t = record { place = t.place; type = t.ty; leafrefs = map leafref_seen t.leafrefs.items }

abbrev pub owns : List Typing → List Own
owns all = map own_of all

abbrev pub places_of : List Own → List Place
places_of all = map (λ (own : Own). own.place) all

abbrev pub leafrefs_seen : List (Vec Leafref Global) → List (List (ℕ × Stmt))
leafrefs_seen all = map (λ (v : Vec Leafref Global). map leafref_seen v.items) all

-- ---- of a node

abbrev pub stands_at : Branch → Own → Bool
stands_at b own = same_place (place_of_node b) own.place

abbrev pub found_for : List Own → Branch → Option Own
found_for all b = find (stands_at b) all

abbrev pub own_of_node : List Stmt → Branch → Option Own
own_of_node stmts b = option_map (own_at stmts) (site_at stmts b.source b.at)

-- the entries have what each node needs
pub record AreTyped (stmts : List Stmt) (forest : List Branch) (types : NodeTypes) : Type 0 where
  pub places : AreFirst (places_of (owns types.all.items)) types.places
  pub each : (i : ℕ) (d : Branch) → i < length forest → found_for (owns types.all.items) (slice_index_or forest i d) ≡ own_of_node stmts (slice_index_or forest i d)
