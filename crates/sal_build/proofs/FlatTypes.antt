-- Integers have 8, 16, 32 or 64 bits, and no member of a union is a union: of types by themselves, and with those of their targets.
use Rattle.std.proofs.Common.{◌≡◌, ℕ, zero, suc, Bool, true, not, ◌&&◌, IsTrue, List, [], ◌∷◌, map, drop, length, Option, Some, None, refl, sym, subst, inl, inr}
use Rattle.std.specs.Prelude.{option_map, is_some, unwrap_or, if◌then◌else◌}
use Rattle.std.specs.List.{list_all, list_any, flat_map, enumerate_from, slice_get}
use Rattle.std.proofs.lemmas.Bool.{cases_Bool}
use Rattle.sal_stmt.specs.declared.stmt.Stmt.{Stmt}
use Rattle.sal_module.specs.declared.keyword.Keyword.TheVariants as word
use Rattle.sal_module.specs.Keywords.{same}
use Rattle.sal_module.specs.Statements.{is_named, subs_of}
use Rattle.sal_restrict.specs.declared.yang_type.YangType.{YangType, out-YangType, roll-YangType}
use Rattle.sal_restrict.specs.declared.yang_type.YangType.TheOpen.{YangType-F}
use Rattle.sal_restrict.specs.declared.yang_type.YangType.TheViews.{out-roll-YangType}
use Rattle.sal_typedefs.specs.Builtins.{Name, names, builtin_of, builtin_among, bare, type_of}
use Rattle.sal_typedefs.specs.Names.{name_of, rests_on, steps_of}
use Rattle.sal_typedefs.specs.Restrictions.{Base, Layer, is_decimal, digits_of, with_digits, layer_of}
use Rattle.sal_typedefs.specs.Scopes.{Site}
use Rattle.sal_typedefs.specs.Types.{members_of, entries_in, restricted, Judged, nothing, is_faulty, base_of, judged, judge, judge_last, judgement}
use Rattle.sal_grouping.specs.declared.forest.Branch.{Branch}
use Rattle.sal_schema.specs.declared.table.SchemaTable.{SchemaTable}
use Rattle.sal_schema.specs.Kinds.{has_type}
use Rattle.sal_schema.proofs.Conjuncts.{and_first, and_second}
use Rattle.sal_module_table.specs.Filled.{empty, type_at, is_reference, filled_member, left_after, filled_members, filled_layer, node_type}
use Rattle.sal_build.specs.Laws.{TypesAreFlat, is_sized, is_flat}
use Rattle.sal_module_table.specs.Leafrefs as leafrefs
use Rattle.sal_module_table.specs.Leafrefs.{stated_type, own_types, edges_of}
use Rattle.sal_module_table.specs.Nodes.{kind_of}
use Rattle.sal_build.proofs.Built.{built_ok, forest_of}
use Rattle.sal_module_table.proofs.Fillings.{type-zero, type-suc}
use Rattle.sal_build.proofs.Quiet.{both, all-joined, all-map}
use Rattle.sal_build.proofs.Shapes.{all-flat}
use Rattle.sal_build.proofs.FilledTypes.{made}

abbrev sized : YangType → Bool
sized t = is_sized (out-YangType t)

abbrev flat : YangType → Bool
flat t = is_flat (out-YangType t)

rolled : (layer : Layer) → IsTrue (is_flat layer) → IsTrue (is_flat (out-YangType (roll-YangType layer)))
rolled layer h = rw out-roll-YangType h

empty-flat : IsTrue (flat empty)
empty-flat = rolled YangType-F.Empty refl

-- ---- members

members-sized : (t : YangType) (layer : Layer) → out-YangType t ≡ layer → IsTrue (is_flat layer) → IsTrue (list_all sized (members_of t layer))
members-sized t (YangType-F.Union members) e h = h
members-sized t layer e h = both (sized t) true (subst (λ (l : Layer). IsTrue (is_sized l)) (sym e) h) refl

below-sized : (below : List YangType) → IsTrue (list_all flat below) → IsTrue (list_all sized (flat_map (λ t. members_of t (out-YangType t)) below))
below-sized [] h = refl
below-sized (t ∷ below) h =
    all-joined sized (members_of t (out-YangType t)) (flat_map (λ t. members_of t (out-YangType t)) below) (members-sized t (out-YangType t) refl (and_first (flat t) (list_all flat below) h))
    (below-sized below (and_second (flat t) (list_all flat below) h))

-- ---- the type of a type statement

restricted-flat : (modules : List Stmt) (m : ℕ) (base : Base) (stmt : Stmt) (below : List YangType) (stated layer : Layer) → IsTrue (is_flat layer) → IsTrue (list_all flat below)
    → IsTrue (is_flat (restricted modules m base stmt below (entries_in base stmt stated) layer))
restricted-flat modules m base stmt below stated (YangType-F.Int bits signed range) h b = h
restricted-flat modules m base stmt below stated (YangType-F.Dec digits range) h b = refl
restricted-flat modules m base stmt below stated (YangType-F.Text length patterns) h b = refl
restricted-flat modules m base stmt below stated YangType-F.Bool h b = refl
restricted-flat modules m base stmt below stated (YangType-F.Enum names places) h b = elim (cases_Bool (not base.itself && not (list_any (is_named word.Enum) (subs_of stmt)))) [ inl t ↦ rw t refl | inr f ↦ rw f refl ]
restricted-flat modules m base stmt below stated (YangType-F.Bits names positions) h b = elim (cases_Bool (not base.itself && not (list_any (is_named word.Bit) (subs_of stmt)))) [ inl t ↦ rw t refl | inr f ↦ rw f refl ]
restricted-flat modules m base stmt below stated (YangType-F.Bin length) h b = refl
restricted-flat modules m base stmt below stated (YangType-F.Ident bases) h b = refl
restricted-flat modules m base stmt below stated YangType-F.Empty h b = refl
restricted-flat modules m base stmt below stated (YangType-F.Union members) h b = elim (cases_Bool base.itself) [ inl t ↦ rw t (below-sized below b) | inr f ↦ rw f h ]
restricted-flat modules m base stmt below stated (YangType-F.Leafref path) h b = refl

digits-flat : (digits : ℕ) (layer : Layer) → IsTrue (is_flat layer) → IsTrue (is_flat (with_digits digits layer))
digits-flat digits (YangType-F.Dec old range) h = refl
digits-flat digits layer h = h

layer-flat : (base : Base) (stmt : Stmt) → IsTrue (flat base.type) → IsTrue (is_flat (layer_of base stmt))
layer-flat base stmt h = elim (cases_Bool (is_decimal base)) [ inl t ↦ rw t (digits-flat (digits_of stmt) (out-YangType base.type) h) | inr f ↦ rw f h ]

builtin-among : (all : List Name) (text : List ℕ) → IsTrue (list_all (λ (n : Name). is_flat (bare n.1)) all) → IsTrue (flat (unwrap_or (option_map type_of (builtin_among all text)) nothing.type))
builtin-among [] text h = empty-flat
builtin-among (n ∷ all) text h = elim (cases_Bool (same n.0 text)) [
  | inl t ↦ rw t (rolled (bare n.1) (and_first (is_flat (bare n.1)) (list_all (λ (o : Name). is_flat (bare o.1)) all) h))
  | inr f ↦ rw f (builtin-among all text (and_second (is_flat (bare n.1)) (list_all (λ (o : Name). is_flat (bare o.1)) all) h))
]

builtin-flat : (text : List ℕ) → IsTrue (flat (unwrap_or (option_map type_of (builtin_of text)) nothing.type))
unfolding builtin_of names
builtin-flat text = builtin-among names text refl

first-flat : (below : List Judged) → IsTrue (list_all (λ (j : Judged). flat j.type) below) → IsTrue (flat (unwrap_or (slice_get below 0) nothing).type)
first-flat [] h = empty-flat
first-flat (j ∷ below) h = and_first (flat j.type) (list_all (λ (i : Judged). flat i.type) below) h

base-flat : (site : Site) (below : List Judged) → IsTrue (list_all (λ (j : Judged). flat j.type) below) → IsTrue (flat (base_of site below).type)
base-flat site below h = elim (cases_Bool (is_some (builtin_of (name_of site)))) [ inl t ↦ rw t (builtin-flat (name_of site)) | inr f ↦ rw f (first-flat below h) ]

judged-flat : (modules : List Stmt) (site : Site) (base : Base) (below : List Judged) → IsTrue (flat base.type) → IsTrue (list_all (λ (j : Judged). flat j.type) below) → IsTrue (flat (judged modules site base below).type)
judged-flat modules site base below h all =
    let layer = layer_of base site.stmt in
    let types = map (λ (j : Judged). j.type) below in
    rolled (restricted modules site.module base site.stmt types (entries_in base site.stmt layer) layer)
    (restricted-flat modules site.module base site.stmt types layer layer (layer-flat base site.stmt h) (all-map (λ (j : Judged). j.type) flat below all))

judge-flat : (steps : ℕ) (modules : List Stmt) (site : Site) → IsTrue (flat (judge steps modules site).type)
unfolding judge judge_last
judge-flat zero modules site = judged-flat modules site (base_of site []) [] (base-flat site [] refl) refl
judge-flat (suc steps) modules site =
    let below = map (judge steps modules) (rests_on modules site) in
    let all = made (judge steps modules) (λ (j : Judged). flat j.type) (λ s. judge-flat steps modules s) (rests_on modules site) in
    judged-flat modules site (base_of site below) below (base-flat site below all) all

stated-flat : (stmts : List Stmt) (site : Option Site) → IsTrue (flat (stated_type stmts site))
stated-flat stmts None = empty-flat
stated-flat stmts (Some site) = elim (cases_Bool (is_faulty (judgement stmts site))) [ inl t ↦ rw t empty-flat | inr f ↦ rw f (judge-flat (steps_of stmts) stmts site) ]

-- ---- with the types of targets

at-flat : (types : List YangType) (k : ℕ) → IsTrue (list_all flat types) → IsTrue (flat (type_at types k))
at-flat [] zero h = empty-flat
at-flat [] (suc k) h = empty-flat
at-flat (t ∷ types) zero h = and_first (flat t) (list_all flat types) h
at-flat (t ∷ types) (suc k) h = at-flat types k (and_second (flat t) (list_all flat types) h)

rest-flat : (types : List YangType) → IsTrue (list_all flat types) → IsTrue (list_all flat (drop 1 types))
rest-flat [] h = refl
rest-flat (t ∷ types) h = and_second (flat t) (list_all flat types) h

left-flat : (member : YangType) (types : List YangType) → IsTrue (list_all flat types) → IsTrue (list_all flat (left_after member types))
left-flat member types h = elim (cases_Bool (is_reference (out-YangType member))) [ inl t ↦ rw t (rest-flat types h) | inr f ↦ rw f h ]

member-filled : (member : YangType) (types : List YangType) → IsTrue (sized member) → IsTrue (list_all flat types) → IsTrue (list_all sized (filled_member member types))
member-filled member types h all = elim (cases_Bool (is_reference (out-YangType member))) [
  | inl t ↦ rw t (members-sized (type_at types 0) (out-YangType (type_at types 0)) refl (at-flat types 0 all))
  | inr f ↦ rw f (both (sized member) true h refl)
]

members-filled : (members types : List YangType) → IsTrue (list_all sized members) → IsTrue (list_all flat types) → IsTrue (list_all sized (filled_members members types))
members-filled [] types h all = refl
members-filled (member ∷ members) types h all =
    all-joined sized (filled_member member types) (filled_members members (left_after member types)) (member-filled member types (and_first (sized member) (list_all sized members) h) all)
    (members-filled members (left_after member types) (and_second (sized member) (list_all sized members) h) (left-flat member types all))

layer-filled : (t : YangType) (types : List YangType) (layer : Layer) → out-YangType t ≡ layer → IsTrue (is_flat layer) → IsTrue (list_all flat types) → IsTrue (flat (filled_layer t types layer))
layer-filled t types (YangType-F.Leafref path) e h all = at-flat types 0 all
layer-filled t types (YangType-F.Union members) e h all = rolled (YangType-F.Union (filled_members members types)) (members-filled members types h all)
layer-filled t types layer e h all = subst (λ (l : Layer). IsTrue (is_flat l)) (sym e) h

node-flat : (own : List YangType) (edges : List (List ℕ)) → IsTrue (list_all flat own) → (n k : ℕ) → IsTrue (flat (node_type own edges n k))
node-flat own edges h zero k = subst (λ (t : YangType). IsTrue (flat t)) (sym (type-zero own edges k)) empty-flat
node-flat own edges h (suc n) k =
    let t = type_at own k in
    subst (λ (t : YangType). IsTrue (flat t)) (sym (type-suc own edges n k)) (layer-filled t _ (out-YangType t) refl (at-flat own k h) (made (node_type own edges n) flat (λ j. node-flat own edges h n j) _))

pub types_are_flat : TypesAreFlat
types_are_flat stmts table e =
    let built = built_ok stmts table e in
    let forest = forest_of stmts in
    let own = made (λ b. stated_type stmts (leafrefs.type_of stmts b)) flat (λ b. stated-flat stmts (leafrefs.type_of stmts b)) forest in
    let one = λ (entry : ℕ × Branch). node-flat (own_types stmts forest) (edges_of stmts forest) own (length (edges_of stmts forest)) entry.0 in
    subst (λ (t : SchemaTable). IsTrue (list_all (λ ty. is_flat (out-YangType ty)) t.types)) built.is
    (all-flat flat (λ (entry : ℕ × Branch). if has_type (kind_of stmts entry.1) then leafrefs.node_type stmts forest entry.0 ∷ [] else []) (λ entry.
    elim (cases_Bool (has_type (kind_of stmts entry.1))) [ inl t ↦ rw t (both (flat (leafrefs.node_type stmts forest entry.0)) true (one entry) refl) | inr f ↦ rw f refl ]) (enumerate_from 0 forest))
