-- Properties of the types of all nodes that each type statement without faults keeps: through typedefs, unions and leafrefs.
use Rattle.std.proofs.Common.{◌≡◌, ℕ, zero, suc, Bool, true, false, ◌&&◌, IsTrue, List, [], ◌∷◌, map, refl, inl, inr}
use Rattle.std.specs.Prelude.{option_map, is_some, unwrap_or}
use Rattle.std.specs.List.{list_all, flat_map, slice_get}
use Rattle.std.proofs.lemmas.Bool.{cases_Bool}
use Rattle.sal_stmt.specs.declared.stmt.Stmt.{Stmt}
use Rattle.sal_module.specs.Keywords.{same}
use Rattle.sal_restrict.specs.declared.yang_type.YangType.{YangType, out-YangType, roll-YangType}
use Rattle.sal_restrict.specs.declared.yang_type.YangType.TheOpen.{YangType-F}
use Rattle.sal_restrict.specs.declared.yang_type.YangType.TheViews.{out-roll-YangType}
use Rattle.sal_typedefs.specs.Builtins.{Name, names, builtin_of, builtin_among, bare, type_of}
use Rattle.sal_typedefs.specs.Names.{name_of, rests_on, steps_of}
use Rattle.sal_typedefs.specs.Restrictions.{Base, Layer, layer_of, restriction_faults}
use Rattle.sal_typedefs.specs.Scopes.{Site}
use Rattle.sal_typedefs.specs.Types.{members_of, entries_in, restricted, Judged, nothing, base_of, judged, judge, judge_last, judgement}
use Rattle.sal_grouping.specs.declared.forest.Branch.{Branch}
use Rattle.sal_schema.proofs.Conjuncts.{and_first, and_second}
use Rattle.sal_module_table.specs.Leafrefs as leafrefs
use Rattle.sal_build.specs.Laws.{of_each}
use Rattle.sal_build.proofs.Entries.{TypeEntry}
use Rattle.sal_build.proofs.FilledTypes.{stated, is_stated, is_closed, rolled, members-pass, types-closed}
use Rattle.sal_build.proofs.Quiet.{both, all-joined, all-map}
use Rattle.sal_build.proofs.Unfaulted.{no-fault, judged-quiet, made-quiet}

-- the members of the types below
pub below-pass : (test : Layer → Bool) (below : List YangType) → IsTrue (list_all (is_stated test) below) → IsTrue (list_all (λ m. stated test (out-YangType m)) (flat_map (λ t. members_of t (out-YangType t)) below))
below-pass test [] h = refl
below-pass test (t ∷ below) h =
    all-joined (λ m. stated test (out-YangType m)) (members_of t (out-YangType t)) (flat_map (λ t. members_of t (out-YangType t)) below)
    (members-pass (stated test) t (out-YangType t) refl (and_first (is_stated test t) (list_all (is_stated test) below) h)) (below-pass test below (and_second (is_stated test t) (list_all (is_stated test) below) h))

-- what holds of each built-in type holds of the one that a text names, and of `empty` where it names none
builtin-among : (raw : Layer → Bool) → IsTrue (raw YangType-F.Empty) → (all : List Name) (text : List ℕ) → IsTrue (list_all (λ (n : Name). raw (bare n.1)) all)
    → IsTrue (raw (out-YangType (unwrap_or (option_map type_of (builtin_among all text)) nothing.type)))
builtin-among raw none [] text h = rw out-roll-YangType none
builtin-among raw none (n ∷ all) text h = elim (cases_Bool (same n.0 text)) [
  | inl t ↦ rw t (rw out-roll-YangType (and_first (raw (bare n.1)) (list_all (λ (o : Name). raw (bare o.1)) all) h))
  | inr f ↦ rw f (builtin-among raw none all text (and_second (raw (bare n.1)) (list_all (λ (o : Name). raw (bare o.1)) all) h))
]

pub builtin-raw : (raw : Layer → Bool) → IsTrue (raw YangType-F.Empty) → IsTrue (list_all (λ (n : Name). raw (bare n.1)) names) → (text : List ℕ) → IsTrue (raw (out-YangType (unwrap_or (option_map type_of (builtin_of text)) nothing.type)))
unfolding builtin_of
builtin-raw raw none all text = builtin-among raw none names text all

-- a type, and the names that it has
abbrev pub has_both : (Layer → Bool) → (Layer → List TypeEntry → Bool) → YangType → List TypeEntry → Bool
has_both test extra t entries = is_stated test t && extra (out-YangType t) entries

-- the condition on one statement: over a built-in type that passes `raw`, and over a type that passes
abbrev pub Keeps : (Layer → Bool) → (Layer → List TypeEntry → Bool) → (Layer → Bool) → List Stmt → Type 0
Keeps test extra raw modules =
    (m : ℕ) (base : Base) (stmt : Stmt) (below : List YangType) → (base.itself ≡ true → IsTrue (raw (out-YangType base.type)))
    → (base.itself ≡ false → IsTrue (has_both test extra base.type base.entries)) → IsTrue (list_all (is_stated test) below) → restriction_faults base m stmt ≡ []
    → IsTrue (of_each (stated test) (restricted modules m base stmt below (entries_in base stmt (layer_of base stmt)) (layer_of base stmt))
    && extra (restricted modules m base stmt below (entries_in base stmt (layer_of base stmt)) (layer_of base stmt)) (entries_in base stmt (layer_of base stmt)))

module _ (test : Layer → Bool) (extra : Layer → List TypeEntry → Bool) (raw : Layer → Bool) (none : IsTrue (test YangType-F.Empty)) (bare-empty : IsTrue (extra YangType-F.Empty []))
    (of-builtin : (text : List ℕ) → IsTrue (raw (out-YangType (unwrap_or (option_map type_of (builtin_of text)) nothing.type)))) (modules : List Stmt) (keeps : Keeps test extra raw modules) where
  abbrev passes : Judged → Bool
  passes j = has_both test extra j.type j.entries

  nothing-passes : IsTrue (has_both test extra nothing.type nothing.entries)
  nothing-passes = both (is_stated test nothing.type) (extra (out-YangType nothing.type) []) (rolled (stated test) YangType-F.Empty none) (rw out-roll-YangType bare-empty)

  base-raw : (site : Site) (below : List Judged) → (base_of site below).itself ≡ true → IsTrue (raw (out-YangType (base_of site below).type))
  base-raw site below itself = elim (cases_Bool (is_some (builtin_of (name_of site)))) [
    | inl t ↦ rw t (of-builtin (name_of site))
    | inr f ↦ let no = rw f at itself in cc
  ]

  first-passes : (below : List Judged) → IsTrue (list_all passes below) → IsTrue (has_both test extra (unwrap_or (slice_get below 0) nothing).type (unwrap_or (slice_get below 0) nothing).entries)
  first-passes [] h = nothing-passes
  first-passes (j ∷ below) h = and_first (passes j) (list_all passes below) h

  base-derived : (site : Site) (below : List Judged) → IsTrue (list_all passes below) → (base_of site below).itself ≡ false → IsTrue (has_both test extra (base_of site below).type (base_of site below).entries)
  base-derived site below h other = elim (cases_Bool (is_some (builtin_of (name_of site)))) [
    | inl t ↦ let no = rw t at other in cc
    | inr f ↦ rw f (first-passes below h)
  ]

  types-pass : (below : List Judged) → IsTrue (list_all passes below) → IsTrue (list_all (λ (j : Judged). is_stated test j.type) below)
  types-pass [] h = refl
  types-pass (j ∷ below) h =
      let here = and_first (passes j) (list_all passes below) h in
      both (is_stated test j.type) (list_all (λ (i : Judged). is_stated test i.type) below) (and_first (is_stated test j.type) (extra (out-YangType j.type) j.entries) here)
      (types-pass below (and_second (passes j) (list_all passes below) h))

  judged-passes : (site : Site) (below : List Judged) → IsTrue (list_all passes below) → restriction_faults (base_of site below) site.module site.stmt ≡ [] → IsTrue (passes (judged modules site (base_of site below) below))
  judged-passes site below all quiet =
      let base = base_of site below in
      let entries = entries_in base site.stmt (layer_of base site.stmt) in
      let layer = restricted modules site.module base site.stmt (map (λ (j : Judged). j.type) below) entries (layer_of base site.stmt) in
      let kept = keeps site.module base site.stmt (map (λ (j : Judged). j.type) below) (base-raw site below) (base-derived site below all) (all-map (λ (j : Judged). j.type) (is_stated test) below (types-pass below all)) quiet in
      both (is_stated test (roll-YangType layer)) (extra (out-YangType (roll-YangType layer)) entries) (rolled (stated test) layer (and_first (of_each (stated test) layer) (extra layer entries) kept))
      (rw out-roll-YangType (and_second (of_each (stated test) layer) (extra layer entries) kept))

  judge-passes : (steps : ℕ) (site : Site) → (judge steps modules site).faults ≡ [] → IsTrue (passes (judge steps modules site))
  unfolding judge judge_last
  judge-passes zero site e = judged-passes site [] refl (judged-quiet modules site (base_of site []) [] e).1
  judge-passes (suc steps) site e =
      let below = map (judge steps modules) (rests_on modules site) in
      let (under, own) = judged-quiet modules site (base_of site below) below e in
      judged-passes site below (made-quiet (judge steps modules) passes (λ s quiet. judge-passes steps s quiet) (rests_on modules site) under) own

  -- and of all nodes, with the types of targets
  pub judged-closed : (forest : List Branch) → IsTrue (list_all (is_closed test) (leafrefs.types_of modules forest))
  judged-closed forest =
      types-closed test none modules (λ site sound.
      let j = judgement modules site in
      and_first (is_stated test j.type) (extra (out-YangType j.type) j.entries) (judge-passes (steps_of modules) site (no-fault j sound))) forest
