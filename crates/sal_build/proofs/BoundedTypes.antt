-- Types have their bits or digits, ranges within them and bases that are there, and none is a leafref.
use Rattle.sal_grouping.proofs.Parts.{TreeNode}
use Rattle.sal_build.proofs.Grown.{AreGrown, built-grown}
use Rattle.std.proofs.Common.{◌≡◌, ℕ, suc, ◌+◌, Bool, true, not, ◌&&◌, nat_lt, nat_le, IsTrue, List, [], ◌∷◌, length, refl, ap, subst, inl, inr}
use Rattle.std.specs.List.{list_all, list_any}
use Rattle.std.specs.Option.{option_to_list}
use Rattle.std.proofs.lemmas.Bool.{cases_Bool}
use Rattle.sal_stmt.specs.declared.stmt.Stmt.{Stmt}
use Rattle.sal_module.specs.declared.keyword.Keyword.TheVariants as word
use Rattle.sal_module.specs.Statements.{is_named, subs_of, all_named, argument_of}
use Rattle.sal_restrict.specs.declared.yang_type.YangType.{YangType, out-YangType}
use Rattle.sal_restrict.specs.declared.yang_type.YangType.TheOpen.{YangType-F}
use Rattle.sal_typedefs.specs.Builtins.{Name, names, bare}
use Rattle.sal_typedefs.specs.Restrictions.{Base, Layer, is_decimal, digits_of, layer_of, restriction_faults}
use Rattle.sal_typedefs.specs.Scopes.{identity_of}
use Rattle.sal_typedefs.specs.Types.{entries_in, restricted}
use Rattle.sal_schema.specs.declared.table.SchemaTable.{SchemaTable}
use Rattle.sal_schema.specs.Valid.{is_width, lie_in_bits}
use Rattle.sal_schema.proofs.Conjuncts.{and_first, and_second}
use Rattle.sal_module_table.specs.Identities.{Identity, identities_of, infos_from, edges_of}
use Rattle.sal_module_table.specs.Leafrefs as leafrefs
use Rattle.sal_build.specs.Laws.{TypesAreBounded, is_bounded, of_each}
use Rattle.sal_build.proofs.Entries.{TypeEntry}
use Rattle.sal_build.proofs.BoundedRanges.{narrowed-lie}
use Rattle.sal_build.proofs.Built.{IsBuiltOn, built_on, forest_by, nodes_of}
use Rattle.sal_build.proofs.FilledTypes.{stated, is_stated}
use Rattle.sal_build.proofs.GoodIdentities.{base-there}
use Rattle.sal_build.proofs.JudgedTypes.{below-pass, builtin-raw, Keeps, judged-closed}
use Rattle.sal_build.proofs.Quiet.{both}
use Rattle.sal_build.proofs.Shapes.{all-flat}
use Rattle.sal_build.proofs.Unfaulted.{restrictions-quiet, said, digits-good}

-- a built-in type before a statement restricts it: a decimal has no digits
abbrev is_raw : ℕ → Layer → Bool
is_raw count (YangType-F.Dec digits range) = lie_in_bits 64 true range
is_raw count layer = of_each (stated (is_bounded count)) layer

abbrev nothing_more : Layer → List TypeEntry → Bool
nothing_more layer entries = true

builtins-raw : (count : ℕ) → IsTrue (list_all (λ (n : Name). is_raw count (bare n.1)) names)
unfolding names
builtins-raw count = refl

module _ (modules : List Stmt) where
  abbrev count : ℕ
  count = length (identities_of modules)

  -- ---- one statement

  restricted-bounded : (m : ℕ) (base : Base) (stmt : Stmt) (below : List YangType) (first layer : Layer) → IsTrue (of_each (stated (is_bounded count)) layer) → IsTrue (list_all (is_stated (is_bounded count)) below)
      → IsTrue (of_each (stated (is_bounded count)) (restricted modules m base stmt below (entries_in base stmt first) layer))
  restricted-bounded m base stmt below first (YangType-F.Int bits signed range) h b =
      both (is_width bits) _ (and_first (is_width bits) (lie_in_bits bits signed range) h) (narrowed-lie bits signed word.Range stmt 0 range (and_second (is_width bits) (lie_in_bits bits signed range) h))
  restricted-bounded m base stmt below first (YangType-F.Dec digits range) h b =
      let few = nat_le 1 digits && nat_le digits 18 in
      both few _ (and_first few (lie_in_bits 64 true range) h) (narrowed-lie 64 true word.Range stmt digits range (and_second few (lie_in_bits 64 true range) h))
  restricted-bounded m base stmt below first (YangType-F.Text length patterns) h b = refl
  restricted-bounded m base stmt below first YangType-F.Bool h b = refl
  restricted-bounded m base stmt below first (YangType-F.Enum names places) h b = elim (cases_Bool (not base.itself && not (list_any (is_named word.Enum) (subs_of stmt)))) [ inl t ↦ rw t refl | inr f ↦ rw f refl ]
  restricted-bounded m base stmt below first (YangType-F.Bits names positions) h b = elim (cases_Bool (not base.itself && not (list_any (is_named word.Bit) (subs_of stmt)))) [ inl t ↦ rw t refl | inr f ↦ rw f refl ]
  restricted-bounded m base stmt below first (YangType-F.Bin length) h b = refl
  restricted-bounded m base stmt below first (YangType-F.Ident bases) h b = elim (cases_Bool base.itself) [
    | inl t ↦ rw t (all-flat (λ base. nat_lt base count) (λ sub. option_to_list (identity_of modules m (argument_of sub))) (λ sub. base-there modules m (argument_of sub)) (all_named word.Base stmt))
    | inr f ↦ rw f h
  ]
  restricted-bounded m base stmt below first YangType-F.Empty h b = refl
  restricted-bounded m base stmt below first (YangType-F.Union members) h b = elim (cases_Bool base.itself) [ inl t ↦ rw t (below-pass (is_bounded count) below b) | inr f ↦ rw f h ]
  restricted-bounded m base stmt below first (YangType-F.Leafref path) h b = refl

  -- ---- the layer that is restricted

  layer-raw : (m : ℕ) (base : Base) (stmt : Stmt) (layer : Layer) → out-YangType base.type ≡ layer → base.itself ≡ true → restriction_faults base m stmt ≡ [] → IsTrue (is_raw count layer)
      → IsTrue (of_each (stated (is_bounded count)) (layer_of base stmt))
  layer-raw m base stmt (YangType-F.Dec digits range) e itself quiet h =
      let decimal : is_decimal base ≡ true = rw (itself, e) refl in
      let (absent, listed, digits-quiet) = restrictions-quiet base m stmt quiet in
      let some = said base m stmt word.FractionDigits (word.FractionDigits ∷ []) refl (rw (itself, e) at absent) in
      let few = digits-good m stmt some (digits-quiet decimal) in
      rw (decimal, e) (both (nat_le 1 (digits_of stmt) && nat_le (digits_of stmt) 18) (lie_in_bits 64 true range) few h)
  layer-raw m base stmt layer e itself quiet h = rw (itself, e) h

  keeps-bounded : Keeps (is_bounded count) nothing_more (is_raw count) modules
  keeps-bounded m base stmt below raw derived all quiet =
      let layer = layer_of base stmt in
      let good : IsTrue (of_each (stated (is_bounded count)) layer) = elim (cases_Bool base.itself) [
        | inl t ↦ layer-raw m base stmt (out-YangType base.type) refl t quiet (raw t)
        | inr f ↦ rw f (and_first (is_stated (is_bounded count) base.type) true (derived f))
      ] in
      both (of_each (stated (is_bounded count)) (restricted modules m base stmt below (entries_in base stmt layer) layer)) true (restricted-bounded m base stmt below layer layer good all) refl

pub infos-length : (edges : List (List ℕ)) (i : ℕ) (some : List Identity) → length some ≡ length (infos_from edges i some)
infos-length edges i [] = refl
infos-length edges i (one ∷ some) = ap (λ n. suc n) (infos-length edges (i + 1) some)

pub types-are-bounded-on : (stmts : List Stmt) (nodes : List TreeNode) (table : SchemaTable) → IsBuiltOn stmts nodes table → AreGrown stmts nodes
    → IsTrue (list_all (λ ty. of_each (is_bounded (length table.identities)) (out-YangType ty)) table.types)
types-are-bounded-on stmts nodes table built grown =
    let forest = forest_by stmts nodes in
    let number = length (identities_of stmts) in
    let quiet = judged-closed (is_bounded number) nothing_more (is_raw number) refl refl (builtin-raw (is_raw number) refl (builtins-raw number)) stmts (keeps-bounded stmts) forest in
    let same_count = infos-length (edges_of stmts) 0 (identities_of stmts) in
    subst (λ (t : SchemaTable). IsTrue (list_all (λ ty. of_each (is_bounded (length t.identities)) (out-YangType ty)) t.types)) built.is
    (subst (λ n. IsTrue (list_all (λ ty. of_each (is_bounded n) (out-YangType ty)) (leafrefs.types_of stmts forest))) same_count quiet)

pub types_are_bounded : TypesAreBounded
types_are_bounded stmts table e = types-are-bounded-on stmts (nodes_of stmts) table (built_on stmts table e) (built-grown stmts)
