-- Bits are named by identifiers: the profile says so of the statement of each.
use Rattle.std.proofs.Common.{◌≡◌, ℕ, zero, suc, ◌+◌, Bool, true, false, not, ◌&&◌, IsTrue, List, [], ◌∷◌, ◌++◌, map, Option, Some, None, refl, sym, ap, ◌∙◌, subst, inl, inr}
use Rattle.std.specs.Prelude.{find, is_some, option_map, option_and_then, unwrap_or, if◌then◌else◌}
use Rattle.std.specs.List.{list_all, list_any, slice_get}
use Rattle.std.proofs.lemmas.Bool.{cases_Bool}
use Rattle.sal_stmt.specs.declared.stmt.Stmt.{Stmt}
use Rattle.sal_module.specs.declared.argument.Form.TheVariants.{Identifier}
use Rattle.sal_module.specs.declared.keyword.Keyword.TheVariants as word
use Rattle.sal_module.specs.Keywords.{same, word_of, keyword_of}
use Rattle.sal_module.specs.Keywords as keywords
use Rattle.sal_module.specs.Profile.{is_prefixed}
use Rattle.sal_module.specs.Statements.{is_named, subs_of, all_named, argument_of}
use Rattle.sal_module.specs.Table.{rule_of, rule_at}
use Rattle.sal_module.specs.Table as table
use Rattle.sal_restrict.specs.declared.yang_type.YangType.{YangType, out-YangType}
use Rattle.sal_restrict.specs.declared.yang_type.YangType.TheOpen.{YangType-F}
use Rattle.sal_typedefs.specs.Builtins.{Name, names, builtin_of, bare}
use Rattle.sal_typedefs.specs.Entries.{entry_of, entries_of}
use Rattle.sal_typedefs.specs.Names.{name_of, rests_on, steps_of}
use Rattle.sal_typedefs.specs.Restrictions.{Base, Layer, is_decimal, digits_of, with_digits, layer_of, choices}
use Rattle.sal_typedefs.specs.Scopes.{Site, within, site_at}
use Rattle.sal_typedefs.specs.Types.{entries_in, restricted, names_in, Judged, nothing, is_faulty, base_of, judged, judge, judge_last, judgement}
use Rattle.sal_grouping.proofs.Parts.{TreeNode, TreeRow}
use Rattle.sal_grouping.specs.declared.forest.Implied.{Implied}
use Rattle.sal_grouping.specs.Expand.{branch_of, source_of, place_of}
use Rattle.sal_grouping.specs.Growth.{node_of}
use Rattle.sal_grouping.specs.Rows.{rows_of}
use Rattle.sal_schema.specs.declared.table.SchemaTable.{SchemaTable}
use Rattle.sal_schema.specs.Kinds.{has_type}
use Rattle.sal_schema.specs.Table.{all_from}
use Rattle.sal_schema.specs.Valid.{is_identifier}
use Rattle.sal_schema.proofs.Conjuncts.{and_first, and_second}
use Rattle.sal_module_table.specs.Leafrefs.{type_in, type_of, stated_type, own_types}
use Rattle.sal_module_table.specs.Nodes.{kind_of}
use Rattle.sal_build.specs.Laws.{BitsAreSpelled, is_spelled, of_each}
use Rattle.sal_build.specs.Readable.{has_own_places, is_shallow, is_readable}
use Rattle.sal_build.proofs.Built.{IsBuiltOn, built_on, forest_by, nodes_of}
use Rattle.sal_build.proofs.Differing.{found-passes}
use Rattle.sal_build.proofs.Entries.{TypeEntry, TypeNumbering, bits}
use Rattle.sal_build.proofs.FilledTypes.{stated, is_stated, rolled, empty-stated, types-filled}
use Rattle.sal_build.proofs.Grown.{AreGrown, built-grown}
use Rattle.sal_build.proofs.JudgedTypes.{below-pass, builtin-raw}
use Rattle.sal_build.proofs.ListedNames.{entry-name}
use Rattle.sal_build.proofs.NamedModules.{good-argument, identifier-given, rule-named}
use Rattle.sal_build.proofs.NamedNodes.{none-fits}
use Rattle.sal_build.proofs.OwnStatements.{IsSound, AreSited, sited-rows}
use Rattle.sal_build.proofs.Quiet.{both, all-joined, all-map}
use Rattle.sal_build.proofs.Shapes.{is_seed}
use Rattle.sal_build.proofs.SoundTypes.{Each, SoundSite, AreModules, type-bare, type-plain, shallow-down, level-quiet, sub-sound, among-found, each-kept, modules-sound, rests-sound}

-- ---- the bits of a statement

bit-bare : is_prefixed (word_of word.Bit) ≡ false
unfolding word_of keywords.words
bit-bare = refl

bit-plain : same (word_of word.Bit) (word_of word.Extension) ≡ false
unfolding word_of keywords.words
bit-plain = refl

bit-form : (rule_of (word_of word.Bit)).argument ≡ Identifier
unfolding rule_of rule_at table.rows word_of keyword_of keywords.words
bit-form = refl

abbrev IsSpelled : Stmt → Type 0
IsSpelled stmt = IsTrue (is_identifier (argument_of stmt))

bits-spelled : (m : ℕ) (stmt : Stmt) → IsSound is_shallow m stmt → Each IsSpelled (all_named word.Bit stmt)
bits-spelled m stmt sound =
    each-kept IsSpelled (is_named word.Bit) (subs_of stmt) (λ sub among named.
    let below = sub-sound m stmt sub word.Bit bit-bare bit-plain sound among named in
    let form = ap (λ w. (rule_of w).argument) (rule-named word.Bit sub named) ∙ bit-form in
    identifier-given _ _ sub form refl (good-argument m sub (level-quiet m below.levels sub below.quiet)))

-- ---- their names

abbrev is_named_well : TypeEntry → Bool
is_named_well e = is_identifier e.name

entries-spelled : (n : TypeNumbering) (from : Option (List TypeEntry)) (before : List TypeEntry) (stmts : List Stmt) → IsTrue (list_all is_named_well before) → Each IsSpelled stmts
    → IsTrue (list_all is_named_well (entries_of n from before stmts))
entries-spelled n from before [] h each = h
entries-spelled n from before (stmt ∷ stmts) h each =
    let entry = entry_of n from before stmt in
    let here : IsTrue (is_named_well entry) = ap is_identifier (entry-name n from before stmt) ∙ each.0 in
    entries-spelled n from (before ++ entry ∷ []) stmts (all-joined is_named_well before (entry ∷ []) h (both (is_named_well entry) true here refl)) each.1

-- ---- one statement

module _ (modules : List Stmt) where
  restricted-spelled : (m : ℕ) (base : Base) (stmt : Stmt) (below : List YangType) (layer : Layer) → IsTrue (of_each (stated is_spelled) layer) → IsTrue (list_all (is_stated is_spelled) below)
      → Each IsSpelled (all_named word.Bit stmt) → IsTrue (of_each (stated is_spelled) (restricted modules m base stmt below (entries_in base stmt layer) layer))
  restricted-spelled m base stmt below (YangType-F.Bits names positions) h b each = elim (cases_Bool (not base.itself && not (list_any (is_named word.Bit) (subs_of stmt)))) [
    | inl t ↦ rw t h
    | inr f ↦
        let entries = entries_of bits (choices base) [] (all_named word.Bit stmt) in
        let good : IsTrue (list_all is_identifier (names_in entries)) = all-map (λ (e : TypeEntry). e.name) is_identifier entries (entries-spelled bits (choices base) [] (all_named word.Bit stmt) refl each) in
        rw f good
  ]
  restricted-spelled m base stmt below (YangType-F.Enum names places) h b each = elim (cases_Bool (not base.itself && not (list_any (is_named word.Enum) (subs_of stmt)))) [ inl t ↦ rw t refl | inr f ↦ rw f refl ]
  restricted-spelled m base stmt below (YangType-F.Union members) h b each = elim (cases_Bool base.itself) [ inl t ↦ rw t (below-pass is_spelled below b) | inr f ↦ rw f h ]
  restricted-spelled m base stmt below layer h b each = refl

  digits-spelled : (digits : ℕ) (layer : Layer) → IsTrue (of_each (stated is_spelled) layer) → IsTrue (of_each (stated is_spelled) (with_digits digits layer))
  digits-spelled digits (YangType-F.Dec old range) h = refl
  digits-spelled digits layer h = h

  layer-spelled : (base : Base) (stmt : Stmt) → IsTrue (is_stated is_spelled base.type) → IsTrue (of_each (stated is_spelled) (layer_of base stmt))
  layer-spelled base stmt h = elim (cases_Bool (is_decimal base)) [ inl t ↦ rw t (digits-spelled (digits_of stmt) (out-YangType base.type) h) | inr f ↦ rw f h ]

  -- ---- with those that it rests on

  abbrev passes : Judged → Bool
  passes j = is_stated is_spelled j.type

  builtins-spelled : IsTrue (list_all (λ (n : Name). of_each (stated is_spelled) (bare n.1)) names)
  unfolding names
  builtins-spelled = refl

  first-spelled : (below : List Judged) → IsTrue (list_all passes below) → IsTrue (is_stated is_spelled (unwrap_or (slice_get below 0) nothing).type)
  first-spelled [] h = rolled (stated is_spelled) YangType-F.Empty refl
  first-spelled (j ∷ below) h = and_first (passes j) (list_all passes below) h

  base-spelled : (site : Site) (below : List Judged) → IsTrue (list_all passes below) → IsTrue (is_stated is_spelled (base_of site below).type)
  base-spelled site below h = elim (cases_Bool (is_some (builtin_of (name_of site)))) [
    | inl t ↦ rw t (builtin-raw (of_each (stated is_spelled)) refl builtins-spelled (name_of site))
    | inr f ↦ rw f (first-spelled below h)
  ]

  judged-spelled : (site : Site) (below : List Judged) → SoundSite site → IsTrue (list_all passes below) → IsTrue (passes (judged modules site (base_of site below) below))
  judged-spelled site below sound h =
      let base = base_of site below in
      let layer = layer_of base site.stmt in
      let types = map (λ (j : Judged). j.type) below in
      rolled (stated is_spelled) (restricted modules site.module base site.stmt types (entries_in base site.stmt layer) layer)
      (restricted-spelled site.module base site.stmt types layer (layer-spelled base site.stmt (base-spelled site below h)) (all-map (λ (j : Judged). j.type) (is_stated is_spelled) below h)
      (bits-spelled site.module site.stmt sound.0))

  each-judged : (f : Site → Judged) → ((site : Site) → SoundSite site → IsTrue (passes (f site))) → (sites : List Site) → Each SoundSite sites → IsTrue (list_all passes (map f sites))
  each-judged f each [] sound = refl
  each-judged f each (site ∷ sites) sound = both (passes (f site)) (list_all passes (map f sites)) (each site sound.0) (each-judged f each sites sound.1)

  module _ (are : AreModules modules) where
    judge-spelled : (steps : ℕ) (site : Site) → SoundSite site → IsTrue (passes (judge steps modules site))
    unfolding judge judge_last
    judge-spelled zero site sound = judged-spelled site [] sound refl
    judge-spelled (suc steps) site sound =
        judged-spelled site (map (judge steps modules) (rests_on modules site)) sound (each-judged (judge steps modules) (judge-spelled steps) (rests_on modules site) (rests-sound modules are site sound))

    -- ---- the types of nodes

    abbrev is_well : Option Site → Bool
    is_well site = is_stated is_spelled (stated_type modules site)

    site-spelled : (site : Site) → SoundSite site → IsTrue (is_well (Some site))
    site-spelled site sound = elim (cases_Bool (is_faulty (judgement modules site))) [ inl t ↦ rw t (empty-stated is_spelled refl) | inr f ↦ rw f (judge-spelled (steps_of modules) site sound) ]

    found-spelled : (site : Site) → SoundSite site → (o : Option Stmt) → find (is_named word.Type) (subs_of site.stmt) ≡ o → IsTrue (is_well (option_map (within site) o))
    found-spelled site sound None e = empty-stated is_spelled refl
    found-spelled site sound (Some sub) e =
        let below = sub-sound site.module site.stmt sub word.Type type-bare type-plain sound.0 (among-found (is_named word.Type) (subs_of site.stmt) sub e) (found-passes (is_named word.Type) (subs_of site.stmt) sub e) in
        site-spelled (within site sub) (below, sound)

    module _ (sited : AreSited is_shallow modules (rows_of modules)) where
      abbrev typed_at : Bool → Option TreeRow → Option Site
      typed_at typed row = if typed then option_and_then type_in (site_at modules (source_of row) (place_of row)) else None

      row-spelled : (k : ℕ) (side : Option Implied) (typed : Bool) (row : Option TreeRow) → slice_get (rows_of modules) k ≡ row → IsTrue (is_seed side (option_map (λ (row : TreeRow). row.keyword) row)) → IsTrue (is_well (typed_at typed row))
      row-spelled k side false row e h = empty-stated is_spelled refl
      row-spelled k side true None e h = absurd (let no : false ≡ true = sym (none-fits side) ∙ h in cc)
      row-spelled k side true (Some row) e h =
          let at = sited k row e in
          subst (λ (o : Option Site). IsTrue (is_well (option_and_then type_in o))) (sym at.found) (found-spelled at.site at.sound (find (is_named word.Type) (subs_of at.site.stmt)) refl)

      abbrev is_well_typed : ℕ → TreeNode → Bool
      is_well_typed k node = is_well (type_of modules (branch_of (rows_of modules) node))

      nodes-spelled : (nodes : List TreeNode) → AreGrown modules nodes → IsTrue (all_from is_well_typed 0 nodes)
      nodes-spelled nodes grown =
          grown is_well_typed (λ owner k parent seed h before fit.
          row-spelled seed.0 seed.1 (has_type (kind_of modules (branch_of (rows_of modules) (node_of owner parent seed)))) (slice_get (rows_of modules) seed.0) refl fit)

      own-spelled : (k : ℕ) (nodes : List TreeNode) → IsTrue (all_from is_well_typed k nodes) → IsTrue (list_all (is_stated is_spelled) (own_types modules (map (branch_of (rows_of modules)) nodes)))
      own-spelled k [] h = refl
      own-spelled k (node ∷ nodes) h =
          both (is_well_typed k node) (list_all (is_stated is_spelled) (own_types modules (map (branch_of (rows_of modules)) nodes))) (and_first (is_well_typed k node) (all_from is_well_typed (k + 1) nodes) h)
          (own-spelled (k + 1) nodes (and_second (is_well_typed k node) (all_from is_well_typed (k + 1) nodes) h))

-- ---- of all types

pub own-places : (stmts : List Stmt) → IsTrue (list_all is_readable stmts) → IsTrue (list_all has_own_places stmts)
own-places [] h = refl
own-places (stmt ∷ stmts) h =
    both (has_own_places stmt) (list_all has_own_places stmts) (and_first (has_own_places stmt) (is_shallow 64 stmt) (and_first (is_readable stmt) (list_all is_readable stmts) h))
    (own-places stmts (and_second (is_readable stmt) (list_all is_readable stmts) h))

pub all-shallow : (stmts : List Stmt) → IsTrue (list_all is_readable stmts) → IsTrue (list_all (is_shallow 64) stmts)
all-shallow [] h = refl
all-shallow (stmt ∷ stmts) h =
    both (is_shallow 64 stmt) (list_all (is_shallow 64) stmts) (and_second (has_own_places stmt) (is_shallow 64 stmt) (and_first (is_readable stmt) (list_all is_readable stmts) h))
    (all-shallow stmts (and_second (is_readable stmt) (list_all is_readable stmts) h))

pub bits-are-spelled-on : (stmts : List Stmt) (nodes : List TreeNode) (table : SchemaTable) → IsTrue (list_all is_readable stmts) → IsBuiltOn stmts nodes table → AreGrown stmts nodes
    → IsTrue (list_all (λ ty. of_each is_spelled (out-YangType ty)) table.types)
bits-are-spelled-on stmts nodes table readable built grown =
    let shallow = all-shallow stmts readable in
    let are = modules-sound stmts built.checked.profile shallow in
    let sited = sited-rows is_shallow shallow-down stmts (own-places stmts readable) shallow built.checked.profile in
    subst (λ (t : SchemaTable). IsTrue (list_all (λ ty. of_each is_spelled (out-YangType ty)) t.types)) built.is
    (types-filled is_spelled refl stmts (forest_by stmts nodes) (own-spelled stmts are sited 0 nodes (nodes-spelled stmts are sited nodes grown)))

pub bits_are_spelled : BitsAreSpelled
bits_are_spelled stmts table readable e = bits-are-spelled-on stmts (nodes_of stmts) table readable (built_on stmts table e) (built-grown stmts)
