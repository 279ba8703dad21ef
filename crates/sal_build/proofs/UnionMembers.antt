-- Unions have members: a type statement says so, a way of them ends before the steps do, and targets have types of the same kind.
use Rattle.std.proofs.Common.{◌≡◌, ℕ, zero, suc, ◌+◌, Bool, true, false, not, ◌&&◌, ◌||◌, ◌==◌, IsTrue, List, [], ◌∷◌, ◌++◌, filter, map, length, Option, Some, None, refl, sym, ap, subst, ◌∙◌, inl, inr, arith}
use Rattle.std.specs.Prelude.{option_map, option_and_then, find, unwrap_or, codes, if◌then◌else◌}
use Rattle.std.specs.List.{list_all, list_any, flat_map, enumerate_from, slice_get}
use Rattle.std.proofs.lemmas.Bool.{cases_Bool}
use Rattle.std.proofs.lemmas.Bool.Decides.{nat_tests}
use Rattle.sal_stmt.specs.declared.stmt.Stmt.{Stmt}
use Rattle.sal_module.specs.declared.keyword.Keyword.TheVariants as word
use Rattle.sal_module.specs.Keywords.{same}
use Rattle.sal_module.specs.Profile.{profile_faults}
use Rattle.sal_module.specs.Statements.{is_named, subs_of}
use Rattle.sal_restrict.specs.declared.yang_type.YangType.{YangType, out-YangType, roll-YangType}
use Rattle.sal_restrict.specs.declared.yang_type.YangType.TheOpen.{YangType-F}
use Rattle.sal_restrict.specs.declared.yang_type.YangType.TheViews.{out-roll-YangType}
use Rattle.sal_typedefs.specs.Builtins.{Name, names, builtin_of, builtin_among, bare, type_of}
use Rattle.sal_typedefs.specs.Names.{name_of, is_builtin, types_in, rests_on, steps_of}
use Rattle.sal_typedefs.specs.Restrictions.{Base, Layer, is_decimal, digits_of, with_digits, layer_of, absent_faults}
use Rattle.sal_typedefs.specs.Scopes.{Site, within, site_at}
use Rattle.sal_typedefs.specs.Types.{members_of, entries_in, restricted, Judged, nothing, is_faulty, base_of, judged, judge, judge_last, judgement}
use Rattle.sal_grouping.specs.declared.forest.Branch.{Branch}
use Rattle.sal_grouping.proofs.Parts.{TreeNode, TreeRow}
use Rattle.sal_grouping.specs.Expand.{branch_of, source_of, place_of}
use Rattle.sal_grouping.specs.Growth.{node_of}
use Rattle.sal_grouping.specs.Rows.{rows_of}
use Rattle.sal_grouping.specs.declared.forest.Implied.{Implied}
use Rattle.sal_schema.specs.declared.table.SchemaTable.{SchemaTable}
use Rattle.sal_schema.specs.Kinds.{has_type}
use Rattle.sal_schema.specs.Table.{all_from}
use Rattle.sal_schema.specs.Valid.{is_empty}
use Rattle.sal_schema.proofs.Conjuncts.{and_first, and_second}
use Rattle.sal_module_table.specs.Filled.{empty, type_at, is_reference, filled_member, left_after, filled_members, filled_layer, node_type}
use Rattle.sal_module_table.specs.Identities as identities
use Rattle.sal_module_table.specs.Leafrefs as leafrefs
use Rattle.sal_module_table.specs.Leafrefs.{type_in, stated_type, sound_type, own_types, edges_of}
use Rattle.sal_module_table.specs.Nodes.{kind_of}
use Rattle.sal_module_table.specs.Types as types
use Rattle.sal_module_table.proofs.Fillings.{type-zero, type-suc}
use Rattle.sal_module.proofs.Initials.{same-text}
use Rattle.sal_build.specs.Laws.{UnionsHaveMembers, has_members}
use Rattle.sal_build.specs.Readable.{is_readable, is_shallow}
use Rattle.sal_build.proofs.Entries.{TypeEntry, wrong}
use Rattle.sal_build.proofs.Built.{IsBuiltOn, built_on, forest_by, nodes_of}
use Rattle.sal_build.proofs.Grown.{AreGrown, built-grown}
use Rattle.sal_build.proofs.Members.{found-in}
use Rattle.sal_build.proofs.NamedNodes.{none-fits}
use Rattle.sal_build.proofs.OwnSites.{HaveSites, own-sites}
use Rattle.sal_build.proofs.Quiet.{both, front-nil}
use Rattle.sal_build.proofs.ReadSites.{IsReadSite, IsTyped, inner-read}
use Rattle.sal_build.proofs.Shapes.{all-flat, is_seed}
use Rattle.sal_build.proofs.SpelledBits.{own-places, all-shallow}
use Rattle.sal_build.proofs.ShortWays.{is_some_site, first_or, next, Goes, no-longer, other-wrong}
use Rattle.sal_build.proofs.Unfaulted.{no-fault, judged-quiet, restrictions-quiet, said}
use Rattle.sal_build.proofs.FilledTypes.{made}

abbrev has_some : YangType → Bool
has_some t = has_members (out-YangType t)

none-left : {X : Type 0} (xs : List X) → not (is_empty xs) ≡ false → xs ≡ []
none-left [] e = refl
none-left (x ∷ xs) e = let more : (length (x ∷ xs) == 0) ≡ false = grind (arith, nat_tests) in let no : true ≡ false = rw more at e in absurd (other-wrong no)

rolled : (layer : Layer) → IsTrue (has_members layer) → IsTrue (has_some (roll-YangType layer))
rolled layer h = rw out-roll-YangType h

empty-has : IsTrue (has_some empty)
empty-has = rolled YangType-F.Empty refl

-- ---- one statement

abbrev is_union : Layer → Bool
is_union (YangType-F.Union members) = true
is_union layer = false

abbrev all_members : List YangType → List YangType
all_members below = flat_map (λ t. members_of t (out-YangType t)) below

-- a type whose members are none is a union without members
members-none : (t : YangType) (layer : Layer) → members_of t layer ≡ [] → has_members layer ≡ false
members-none t (YangType-F.Union members) e = rw e refl
members-none t (YangType-F.Int bits signed range) e = cc
members-none t (YangType-F.Dec digits range) e = cc
members-none t (YangType-F.Text length patterns) e = cc
members-none t YangType-F.Bool e = cc
members-none t (YangType-F.Enum all places) e = cc
members-none t (YangType-F.Bits all positions) e = cc
members-none t (YangType-F.Bin length) e = cc
members-none t (YangType-F.Ident bases) e = cc
members-none t YangType-F.Empty e = cc
members-none t (YangType-F.Leafref path) e = cc

-- what makes a union without members
record IsBare (base : Base) (below : List YangType) (layer : Layer) : Type 0 where
  is_one : is_union layer ≡ true
  inside : base.itself ≡ true → all_members below ≡ []
  derived : base.itself ≡ false → has_members layer ≡ false

restricted-bare : (modules : List Stmt) (m : ℕ) (base : Base) (stmt : Stmt) (below : List YangType) (entries : List TypeEntry) (layer : Layer)
    → has_members (restricted modules m base stmt below entries layer) ≡ false → IsBare base below layer
restricted-bare modules m base stmt below entries (YangType-F.Union members) e = record {
  is_one = refl;
  inside = λ t. none-left (all_members below) (rw t at e);
  derived = λ f. rw f at e;
}
restricted-bare modules m base stmt below entries (YangType-F.Int bits signed range) e = absurd (other-wrong e)
restricted-bare modules m base stmt below entries (YangType-F.Dec digits range) e = absurd (other-wrong e)
restricted-bare modules m base stmt below entries (YangType-F.Text length patterns) e = absurd (other-wrong e)
restricted-bare modules m base stmt below entries YangType-F.Bool e = absurd (other-wrong e)
restricted-bare modules m base stmt below entries (YangType-F.Enum all places) e = elim (cases_Bool (not base.itself && not (list_any (is_named word.Enum) (subs_of stmt)))) [ inl t ↦ absurd (other-wrong (rw t at e)) | inr f ↦ absurd (other-wrong (rw f at e)) ]
restricted-bare modules m base stmt below entries (YangType-F.Bits all positions) e = elim (cases_Bool (not base.itself && not (list_any (is_named word.Bit) (subs_of stmt)))) [ inl t ↦ absurd (other-wrong (rw t at e)) | inr f ↦ absurd (other-wrong (rw f at e)) ]
restricted-bare modules m base stmt below entries (YangType-F.Bin length) e = absurd (other-wrong e)
restricted-bare modules m base stmt below entries (YangType-F.Ident bases) e = absurd (other-wrong e)
restricted-bare modules m base stmt below entries YangType-F.Empty e = absurd (other-wrong e)
restricted-bare modules m base stmt below entries (YangType-F.Leafref path) e = absurd (other-wrong e)

digits-union : (digits : ℕ) (layer : Layer) → is_union (with_digits digits layer) ≡ is_union layer
digits-union digits (YangType-F.Dec old range) = refl
digits-union digits layer = refl

layer-union : (base : Base) (stmt : Stmt) → is_union (layer_of base stmt) ≡ is_union (out-YangType base.type)
layer-union base stmt = elim (cases_Bool (is_decimal base)) [ inl t ↦ rw t (digits-union (digits_of stmt) (out-YangType base.type)) | inr f ↦ rw f refl ]

digits-members : (digits : ℕ) (layer : Layer) → has_members (with_digits digits layer) ≡ has_members layer
digits-members digits (YangType-F.Dec old range) = refl
digits-members digits layer = refl

layer-members : (base : Base) (stmt : Stmt) → has_members (layer_of base stmt) ≡ has_members (out-YangType base.type)
layer-members base stmt = elim (cases_Bool (is_decimal base)) [ inl t ↦ rw t (digits-members (digits_of stmt) (out-YangType base.type)) | inr f ↦ rw f refl ]

-- the statement of a union names a type
types-said : (m : ℕ) (base : Base) (stmt : Stmt) (layer : Layer) → out-YangType base.type ≡ layer → is_union layer ≡ true → base.itself ≡ true → absent_faults base m stmt ≡ [] → list_any (is_named word.Type) (subs_of stmt) ≡ true
types-said m base stmt (YangType-F.Union members) e union itself absent = said base m stmt word.Type (word.Type ∷ []) refl (rw (itself, e) at absent)
types-said m base stmt (YangType-F.Int bits signed range) e union itself absent = absurd (wrong union)
types-said m base stmt (YangType-F.Dec digits range) e union itself absent = absurd (wrong union)
types-said m base stmt (YangType-F.Text length patterns) e union itself absent = absurd (wrong union)
types-said m base stmt YangType-F.Bool e union itself absent = absurd (wrong union)
types-said m base stmt (YangType-F.Enum all places) e union itself absent = absurd (wrong union)
types-said m base stmt (YangType-F.Bits all positions) e union itself absent = absurd (wrong union)
types-said m base stmt (YangType-F.Bin length) e union itself absent = absurd (wrong union)
types-said m base stmt (YangType-F.Ident bases) e union itself absent = absurd (wrong union)
types-said m base stmt YangType-F.Empty e union itself absent = absurd (wrong union)
types-said m base stmt (YangType-F.Leafref path) e union itself absent = absurd (wrong union)

-- ---- the built-in union

abbrev is_union_name : Name → Bool
is_union_name n = not (is_union (bare n.1)) || same n.0 (codes "union")

names-good : IsTrue (list_all is_union_name names)
unfolding names
names-good = refl

union-text : (n : Name) (text : List ℕ) → IsTrue (is_union_name n) → is_union (bare n.1) ≡ true → same n.0 text ≡ true → same text (codes "union") ≡ true
union-text n text good union here = let named : same n.0 (codes "union") ≡ true = rw union at good in ap (λ t. same t (codes "union")) (sym (same-text n.0 text here)) ∙ named

union-among : (all : List Name) (text : List ℕ) → IsTrue (list_all is_union_name all) → is_union (out-YangType (unwrap_or (option_map type_of (builtin_among all text)) nothing.type)) ≡ true → same text (codes "union") ≡ true
union-among [] text good e = let none : is_union (out-YangType nothing.type) ≡ false = ap is_union (out-roll-YangType YangType-F.Empty) in absurd (wrong (sym none ∙ e))
union-among (n ∷ all) text good e = elim (cases_Bool (same n.0 text)) [
  | inl t ↦
      (let here : is_union (out-YangType (type_of n.1)) ≡ true = rw t at e in
      let union : is_union (bare n.1) ≡ true = sym (ap is_union (out-roll-YangType (bare n.1))) ∙ here in
      union-text n text (and_first (is_union_name n) (list_all is_union_name all) good) union t)
  | inr f ↦ union-among all text (and_second (is_union_name n) (list_all is_union_name all) good) (rw f at e)
]

union-named : (text : List ℕ) → is_union (out-YangType (unwrap_or (option_map type_of (builtin_of text)) nothing.type)) ≡ true → same text (codes "union") ≡ true
unfolding builtin_of
union-named text e = union-among names text names-good e

-- ---- in this many steps

some-named : (test : Stmt → Bool) (site : Site) (subs : List Stmt) → list_any test subs ≡ true → is_some_site (map (within site) (filter test subs)) ≡ true
some-named test site [] e = absurd (wrong e)
some-named test site (sub ∷ subs) e = elim (cases_Bool (test sub)) [ inl t ↦ rw t refl | inr f ↦ (let rest : list_any test subs ≡ true = rw f at e in rw f (some-named test site subs rest)) ]

record IsEmptyBelow (f : Site → Judged) (site : Site) (sites : List Site) : Type 0 where
  some : is_some_site sites ≡ true
  quiet : (f (first_or site sites)).faults ≡ []
  bare : has_some (f (first_or site sites)).type ≡ false

-- the first of those below has none
none-inside : (f : Site → Judged) (site : Site) (sites : List Site) → is_some_site sites ≡ true → flat_map (λ (j : Judged). j.faults) (map f sites) ≡ [] → all_members (map (λ (j : Judged). j.type) (map f sites)) ≡ []
    → IsEmptyBelow f site sites
none-inside f site [] some quiet e = absurd (wrong some)
none-inside f site (first ∷ sites) some quiet e =
    let (here, rest) = front-nil (f first).faults (flat_map (λ (j : Judged). j.faults) (map f sites)) quiet in
    let (own, others) = front-nil (members_of (f first).type (out-YangType (f first).type)) (all_members (map (λ (j : Judged). j.type) (map f sites))) e in
    record { some = refl; quiet = here; bare = members-none (f first).type (out-YangType (f first).type) own }

none-derived : (f : Site → Judged) (site : Site) (sites : List Site) → flat_map (λ (j : Judged). j.faults) (map f sites) ≡ [] → has_some (unwrap_or (slice_get (map f sites) 0) nothing).type ≡ false → IsEmptyBelow f site sites
none-derived f site [] quiet e = absurd (other-wrong (sym empty-has ∙ e))
none-derived f site (first ∷ sites) quiet e =
    let (here, rest) = front-nil (f first).faults (flat_map (λ (j : Judged). j.faults) (map f sites)) quiet in
    record { some = refl; quiet = here; bare = e }

module _ (modules : List Stmt) where
  -- of a statement that has no members the first below has none
  below-bare : (f : Site → Judged) (site : Site) → (judged modules site (base_of site (map f (rests_on modules site))) (map f (rests_on modules site))).faults ≡ []
      → has_some (judged modules site (base_of site (map f (rests_on modules site))) (map f (rests_on modules site))).type ≡ false → IsEmptyBelow f site (rests_on modules site)
  below-bare f site quiet e =
      let below = map f (rests_on modules site) in
      let base = base_of site below in
      let layer = layer_of base site.stmt in
      let inner = map (λ (j : Judged). j.type) below in
      let (under, own) = judged-quiet modules site base below quiet in
      let meant = restricted modules site.module base site.stmt inner (entries_in base site.stmt layer) layer in
      let none_left : has_members meant ≡ false = sym (ap has_members (out-roll-YangType meant)) ∙ e in
      let made = restricted-bare modules site.module base site.stmt inner (entries_in base site.stmt layer) layer none_left in
      let union : is_union (out-YangType base.type) ≡ true = sym (layer-union base site.stmt) ∙ made.is_one in
      elim (cases_Bool (is_builtin site)) [
        | inl t ↦
            (let itself : base.itself ≡ true = rw t refl in
            let type : base.type ≡ unwrap_or (option_map type_of (builtin_of (name_of site))) nothing.type = rw t refl in
            let name = union-named (name_of site) (sym (ap (λ (ty : YangType). is_union (out-YangType ty)) type) ∙ union) in
            let said_so = types-said site.module base site.stmt (out-YangType base.type) refl union itself (restrictions-quiet base site.module site.stmt own).0 in
            let there : rests_on modules site ≡ types_in site = rw (t, name) refl in
            let some : is_some_site (rests_on modules site) ≡ true = ap is_some_site there ∙ some-named (is_named word.Type) site (subs_of site.stmt) said_so in
            none-inside f site (rests_on modules site) some under (made.inside itself))
        | inr o ↦
            (let itself : base.itself ≡ false = rw o refl in
            let type : base.type ≡ (unwrap_or (slice_get below 0) nothing).type = rw o refl in
            let none : has_some base.type ≡ false = sym (layer-members base site.stmt) ∙ made.derived itself in
            none-derived f site (rests_on modules site) under (sym (ap has_some type) ∙ none))
      ]

  -- a union without members is at the end of a chain of this many steps
  goes-far : (steps : ℕ) (site : Site) → (judge steps modules site).faults ≡ [] → has_some (judge steps modules site).type ≡ false → Goes modules steps site
  unfolding judge judge_last
  goes-far zero site quiet e = tt
  goes-far (suc steps) site quiet e =
      let below = below-bare (judge steps modules) site quiet e in
      (below.some, goes-far steps (next modules site) below.quiet below.bare)

-- ---- with the types of targets

at-has : (types : List YangType) (k : ℕ) → IsTrue (list_all has_some types) → IsTrue (has_some (type_at types k))
at-has [] zero h = empty-has
at-has [] (suc k) h = empty-has
at-has (t ∷ types) zero h = and_first (has_some t) (list_all has_some types) h
at-has (t ∷ types) (suc k) h = at-has types k (and_second (has_some t) (list_all has_some types) h)

abbrev is_more : List YangType → Bool
is_more xs = not (is_empty xs)

more-one : (x : YangType) (xs : List YangType) → IsTrue (is_more (x ∷ xs))
more-one x xs = let more : (length (x ∷ xs) == 0) ≡ false = grind (arith, nat_tests) in rw more refl

more-front : (xs ys : List YangType) → IsTrue (is_more xs) → IsTrue (is_more (xs ++ ys))
more-front [] ys h = absurd (wrong h)
more-front (x ∷ xs) ys h = more-one x (xs ++ ys)

members-more : (t : YangType) (layer : Layer) → IsTrue (has_members layer) → IsTrue (is_more (members_of t layer))
members-more t (YangType-F.Union members) h = h
members-more t layer h = more-one t []

member-filled : (member : YangType) (types : List YangType) → IsTrue (list_all has_some types) → IsTrue (is_more (filled_member member types))
member-filled member types all = elim (cases_Bool (is_reference (out-YangType member))) [
  | inl t ↦ rw t (members-more (type_at types 0) (out-YangType (type_at types 0)) (at-has types 0 all))
  | inr f ↦ rw f (more-one member [])
]

members-filled : (members types : List YangType) → IsTrue (is_more members) → IsTrue (list_all has_some types) → IsTrue (is_more (filled_members members types))
members-filled [] types h all = absurd (wrong h)
members-filled (member ∷ members) types h all = more-front (filled_member member types) (filled_members members (left_after member types)) (member-filled member types all)

layer-filled : (t : YangType) (types : List YangType) (layer : Layer) → out-YangType t ≡ layer → IsTrue (has_members layer) → IsTrue (list_all has_some types) → IsTrue (has_some (filled_layer t types layer))
layer-filled t types (YangType-F.Leafref path) e h all = at-has types 0 all
layer-filled t types (YangType-F.Union members) e h all = rolled (YangType-F.Union (filled_members members types)) (members-filled members types h all)
layer-filled t types layer e h all = subst (λ (l : Layer). IsTrue (has_members l)) (sym e) h

node-has : (own : List YangType) (edges : List (List ℕ)) → IsTrue (list_all has_some own) → (n k : ℕ) → IsTrue (has_some (node_type own edges n k))
node-has own edges h zero k = subst (λ (t : YangType). IsTrue (has_some t)) (sym (type-zero own edges k)) empty-has
node-has own edges h (suc n) k =
    let t = type_at own k in
    subst (λ (t : YangType). IsTrue (has_some t)) (sym (type-suc own edges n k)) (layer-filled t _ (out-YangType t) refl (at-has own k h) (made (node_type own edges n) has_some (λ j. node-has own edges h n j) _))

types-have : (stmts : List Stmt) (forest : List Branch) → IsTrue (list_all has_some (own_types stmts forest)) → IsTrue (list_all has_some (leafrefs.types_of stmts forest))
types-have stmts forest own =
    let one = λ (entry : ℕ × Branch). node-has (own_types stmts forest) (edges_of stmts forest) own (length (edges_of stmts forest)) entry.0 in
    all-flat has_some (λ (entry : ℕ × Branch). if has_type (kind_of stmts entry.1) then leafrefs.node_type stmts forest entry.0 ∷ [] else []) (λ entry.
    elim (cases_Bool (has_type (kind_of stmts entry.1))) [
      | inl t ↦ rw t (both (has_some (leafrefs.node_type stmts forest entry.0)) true (one entry) refl)
      | inr f ↦ rw f refl
    ]) (enumerate_from 0 forest)

-- ---- of all nodes

module _ (stmts : List Stmt) (shallow : IsTrue (list_all (is_shallow 64) stmts)) (sound : (site : Site) → IsTyped stmts site → IsTrue (has_some (sound_type (judgement stmts site)))) (sites : HaveSites stmts (rows_of stmts)) where
  abbrev has_own : ℕ → TreeNode → Bool
  has_own k node = has_some (stated_type stmts (leafrefs.type_of stmts (branch_of (rows_of stmts) node)))

  inside-has : (site : Site) → IsTrue (types.is_read site.stmt) → IsReadSite stmts site → IsTrue (has_some (stated_type stmts (type_in site)))
  inside-has site opened read = elim (find (is_named word.Type) (subs_of site.stmt)) as (λ f. find (is_named word.Type) (subs_of site.stmt) ≡ f → IsTrue (has_some (stated_type stmts (option_map (within site) f)))) [
    | None ↦ λ e. empty-has
    | Some sub ↦ λ e.
        let here = found-in (is_named word.Type) (subs_of site.stmt) sub e in
        sound (within site sub) (record { read = inner-read stmts shallow site sub read opened here.0; named = here.1 })
  ] refl

  row-has : (kind : Bool) (k : ℕ) (side : Option Implied) (row : Option TreeRow) → slice_get (rows_of stmts) k ≡ row → IsTrue (is_seed side (option_map (λ (row : TreeRow). row.keyword) row))
      → IsTrue (has_some (stated_type stmts (if kind then option_and_then type_in (site_at stmts (source_of row) (place_of row)) else None)))
  row-has false k side row e fit = empty-has
  row-has true k side None e fit = absurd (wrong (sym (none-fits side) ∙ fit))
  row-has true k side (Some row) e fit =
      let own = sites k row e in
      subst (λ (o : Option Site). IsTrue (has_some (stated_type stmts (option_and_then type_in o)))) (sym own.found) (inside-has own.site own.opened own.read)

  nodes-have : (nodes : List TreeNode) → AreGrown stmts nodes → IsTrue (all_from has_own 0 nodes)
  nodes-have nodes grown =
      grown has_own (λ owner k parent seed h before fit.
      row-has (has_type (kind_of stmts (branch_of (rows_of stmts) (node_of owner parent seed)))) seed.0 seed.1 (slice_get (rows_of stmts) seed.0) refl fit)

  owns-have : (k : ℕ) (nodes : List TreeNode) → IsTrue (all_from has_own k nodes) → IsTrue (list_all has_some (own_types stmts (map (branch_of (rows_of stmts)) nodes)))
  owns-have k [] h = refl
  owns-have k (node ∷ nodes) h =
      both (has_own k node) (list_all has_some (own_types stmts (map (branch_of (rows_of stmts)) nodes))) (and_first (has_own k node) (all_from has_own (k + 1) nodes) h)
      (owns-have (k + 1) nodes (and_second (has_own k node) (all_from has_own (k + 1) nodes) h))

  all-have : (nodes : List TreeNode) → AreGrown stmts nodes → IsTrue (list_all has_some (leafrefs.types_of stmts (forest_by stmts nodes)))
  all-have nodes grown = types-have stmts (forest_by stmts nodes) (owns-have 0 nodes (nodes-have nodes grown))

judged-has : (stmts : List Stmt) → IsTrue (list_all (is_shallow 64) stmts) → profile_faults stmts ≡ [] → types.name_faults stmts ≡ [] → (site : Site) → IsTyped stmts site → IsTrue (has_some (sound_type (judgement stmts site)))
judged-has stmts shallow profile quiet site typed = elim (cases_Bool (is_faulty (judgement stmts site))) [
  | inl t ↦ rw t empty-has
  | inr f ↦ rw f (elim (cases_Bool (has_some (judgement stmts site).type)) [
    | inl t ↦ t
    | inr none ↦ absurd (no-longer stmts shallow profile quiet site typed (goes-far stmts (steps_of stmts) site (no-fault (judgement stmts site) f) none))
  ])
]

pub unions-have-members-on : (stmts : List Stmt) (nodes : List TreeNode) (table : SchemaTable) → IsTrue (list_all is_readable stmts) → IsBuiltOn stmts nodes table → AreGrown stmts nodes
    → IsTrue (list_all (λ ty. has_members (out-YangType ty)) table.types)
unions-have-members-on stmts nodes table readable built grown =
    let shallow = all-shallow stmts readable in
    let (front, referred) = front-nil (types.name_faults stmts ++ identities.all_faults stmts) (leafrefs.all_faults stmts (forest_by stmts nodes)) built.names in
    let (quiet, derived) = front-nil (types.name_faults stmts) (identities.all_faults stmts) front in
    let sites = own-sites stmts shallow (own-places stmts readable) in
    subst (λ (t : SchemaTable). IsTrue (list_all (λ ty. has_members (out-YangType ty)) t.types)) built.is
    (all-have stmts shallow (judged-has stmts shallow built.checked.profile quiet) sites nodes grown)

pub unions_have_members : UnionsHaveMembers
unions_have_members stmts table readable e = unions-have-members-on stmts (nodes_of stmts) table readable (built_on stmts table e) (built-grown stmts)
