-- Type statements without substatements have no faults, and denote the built-in type.
use Rattle.std.proofs.Common.{◌≡◌, ◌∙◌, ℕ, zero, suc, List, [], ◌∷◌, ◌++◌, Bool, true, false, ◌&&◌, ◌==◌, length, Some, map, filter, find, option_map, unwrap_or, if◌then◌else◌, codes, refl, sym, ap, inl, inr, arith}
use Rattle.std.specs.List.{flat_map, list_any}
use Rattle.std.specs.Prelude.{is_none}
use Rattle.std.proofs.lemmas.Bool.{cases_Bool}
use Rattle.std.proofs.lemmas.Bool.Decides.{nat_tests}
use Rattle.sal_stmt.specs.declared.stmt.Stmt.{Stmt}
use Rattle.sal_module.specs.declared.fault.Cause.TheVariants.{UnknownName}
use Rattle.sal_module.specs.declared.keyword.Keyword.TheVariants as word
use Rattle.sal_module.specs.Keywords.{same}
use Rattle.sal_module.specs.Profile.{at_stmt}
use Rattle.sal_module.specs.Statements.{is_named, subs_of, argument_of, value_of, all_named}
use Rattle.sal_module.proofs.Initials.{same-text}
use Rattle.sal_restrict.specs.declared.yang_type.YangType.{roll-YangType}
use Rattle.sal_restrict.specs.declared.yang_type.YangType.TheViews.{out-roll-YangType}
use Rattle.sal_typedefs.specs.declared.builtin.Builtin.{Builtin}
use Rattle.sal_typedefs.specs.declared.builtin.Builtin.TheVariants as type
use Rattle.sal_typedefs.specs.Builtins.{names, builtin_of, type_of}
use Rattle.sal_typedefs.specs.Scopes.{Site, within, module_of}
use Rattle.sal_typedefs.specs.Names.{name_of, under, types_in, rests_on, name_faults, unknown_faults, cycle_faults, base_fault, base_faults, is_leafref, path_names, path_faults}
use Rattle.sal_typedefs.specs.Restrictions.{Base, restriction_faults, pattern_fault, pattern_faults, is_needed, layer_of}
use Rattle.sal_typedefs.specs.Types.{judged, judge, judge_last, base_of, entries_in, restricted, narrowed}
use Rattle.sal_typedefs.specs.Whole.{Names, is_whole}

pub empty-list : {X : Type 0} (xs : List X) → (length xs == 0) ≡ true → xs ≡ []
empty-list [] e = refl
empty-list (x ∷ xs) e = absurd (let zero : length (x ∷ xs) ≡ 0 = grind (arith, nat_tests) in omega (arith, zero))

either : {X : Type 0} (b : Bool) (xs : List X) → xs ≡ [] → (if b then xs else []) ≡ []
either true xs e = e
either false xs e = refl

unless : {X : Type 0} (b : Bool) (xs : List X) → (if b && false then xs else []) ≡ []
unless true xs = refl
unless false xs = refl

four : {X : Type 0} (a b c d : List X) → a ≡ [] → b ≡ [] → c ≡ [] → d ≡ [] → a ++ b ++ c ++ d ≡ []
four a b c d ea eb ec ed = rw (ea, eb, ec, ed) refl

-- what a built-in type itself is
abbrev own : Builtin → Base
own builtin = record { type = type_of builtin; entries = []; itself = true }

no-faults : (builtin : Builtin) → is_whole builtin ≡ true → (m : ℕ) (stmt : Stmt) → subs_of stmt ≡ [] → restriction_faults (own builtin) m stmt ≡ []
no-faults (type.Int width signed) whole m stmt alone = simp (is_needed, layer_of, out-roll-YangType, alone)
no-faults type.Dec whole m stmt alone = absurd (let no : false ≡ true = whole in cc)
no-faults type.Text whole m stmt alone = simp (is_needed, layer_of, out-roll-YangType, alone)
no-faults type.Bool whole m stmt alone = simp (is_needed, layer_of, out-roll-YangType, alone)
no-faults type.Enum whole m stmt alone = absurd (let no : false ≡ true = whole in cc)
no-faults type.Bits whole m stmt alone = absurd (let no : false ≡ true = whole in cc)
no-faults type.Bin whole m stmt alone = simp (is_needed, layer_of, out-roll-YangType, alone)
no-faults type.Ident whole m stmt alone = absurd (let no : false ≡ true = whole in cc)
no-faults type.Empty whole m stmt alone = simp (is_needed, layer_of, out-roll-YangType, alone)
no-faults type.Union whole m stmt alone = absurd (let no : false ≡ true = whole in cc)
no-faults type.Leafref whole m stmt alone = absurd (let no : false ≡ true = whole in cc)

own-type : (builtin : Builtin) → is_whole builtin ≡ true → (modules : List Stmt) (m : ℕ) (stmt : Stmt) → subs_of stmt ≡ []
    → roll-YangType (restricted modules m (own builtin) stmt [] (entries_in (own builtin) stmt (layer_of (own builtin) stmt)) (layer_of (own builtin) stmt)) ≡ type_of builtin
own-type (type.Int width signed) whole modules m stmt alone = simp (restricted, narrowed, is_needed, layer_of, out-roll-YangType, alone)
own-type type.Dec whole modules m stmt alone = absurd (let no : false ≡ true = whole in cc)
own-type type.Text whole modules m stmt alone = simp (restricted, narrowed, all_named, is_needed, layer_of, out-roll-YangType, alone)
own-type type.Bool whole modules m stmt alone = simp (restricted, is_needed, layer_of, out-roll-YangType, alone)
own-type type.Enum whole modules m stmt alone = absurd (let no : false ≡ true = whole in cc)
own-type type.Bits whole modules m stmt alone = absurd (let no : false ≡ true = whole in cc)
own-type type.Bin whole modules m stmt alone = simp (restricted, narrowed, is_needed, layer_of, out-roll-YangType, alone)
own-type type.Ident whole modules m stmt alone = absurd (let no : false ≡ true = whole in cc)
own-type type.Empty whole modules m stmt alone = simp (restricted, is_needed, layer_of, out-roll-YangType, alone)
own-type type.Union whole modules m stmt alone = absurd (let no : false ≡ true = whole in cc)
own-type type.Leafref whole modules m stmt alone = absurd (let no : false ≡ true = whole in cc)

leafref-is : builtin_of (codes "leafref") ≡ Some type.Leafref
unfolding names builtin_of
leafref-is = refl

not-whole : (builtin : Builtin) → Some builtin ≡ Some type.Leafref → is_whole builtin ≡ true → ⊥
not-whole builtin is whole =
    let same : builtin ≡ type.Leafref = cc in
    let no : false ≡ true = rw same at whole in
    cc

module _ (modules : List Stmt) (site : Site) (builtin : Builtin) (h : Names site.stmt builtin) where
  no-types : types_in site ≡ []
  no-types = ap (λ subs. map (within site) (filter (is_named word.Type) subs)) h.alone

  no-rest : rests_on modules site ≡ []
  no-rest = rw h.named (either (same (name_of site) (codes "union")) (types_in site) no-types)

  base-own : base_of site [] ≡ own builtin
  base-own = rw h.named refl

  lone-faults : is_whole builtin ≡ true → (judged modules site (base_of site []) []).faults ≡ []
  lone-faults whole =
      let patterns : pattern_faults site.module site.stmt ≡ [] = ap (flat_map (pattern_fault site.module)) h.alone in
      ap (λ (base : Base). (judged modules site base []).faults) base-own
      ∙ ap (λ faults. faults ++ restriction_faults (own builtin) site.module site.stmt) patterns
      ∙ no-faults builtin whole site.module site.stmt h.alone

  lone-type : is_whole builtin ≡ true → (judged modules site (base_of site []) []).type ≡ type_of builtin
  lone-type whole = ap (λ (base : Base). (judged modules site base []).type) base-own ∙ own-type builtin whole modules site.module site.stmt h.alone

  no-unknown : unknown_faults modules site ≡ []
  no-unknown = rw h.named refl

  no-cycle : (steps : ℕ) → cycle_faults steps modules site ≡ []
  no-cycle steps = rw h.named refl

  no-base : base_faults modules site ≡ []
  no-base = either (same (name_of site) (codes "identityref")) (flat_map (base_fault modules site.module) (subs_of site.stmt)) (ap (flat_map (base_fault modules site.module)) h.alone)

  no-path : path_faults modules site ≡ []
  no-path =
      let value : value_of word.Path site.stmt ≡ [] = ap (λ subs. unwrap_or (option_map argument_of (find (is_named word.Path) subs)) []) h.alone in
      ap (λ t. if is_leafref site && list_any (λ name. is_none (module_of modules site.module name)) (path_names t) then at_stmt UnknownName site.module site.stmt else []) value
      ∙ unless (is_leafref site) (at_stmt UnknownName site.module site.stmt)

  pub lone-names : (steps : ℕ) → name_faults steps modules site ≡ []
  lone-names steps = four (unknown_faults modules site) (cycle_faults steps modules site) (base_faults modules site) (path_faults modules site) no-unknown (no-cycle steps) no-base no-path

  pub whole-faults : (steps : ℕ) → is_whole builtin ≡ true → (judge steps modules site).faults ≡ []
  unfolding judge judge_last
  whole-faults zero whole = lone-faults whole
  whole-faults (suc n) whole = rw no-rest (lone-faults whole)

  pub whole-type : (steps : ℕ) → is_whole builtin ≡ true → (judge steps modules site).type ≡ type_of builtin
  unfolding judge judge_last
  whole-type zero whole = lone-type whole
  whole-type (suc n) whole = rw no-rest (lone-type whole)

  not-leafref : is_whole builtin ≡ true → is_leafref site ≡ false
  not-leafref whole = elim (cases_Bool (is_leafref site)) [
    | inl hit ↦ absurd (not-whole builtin (sym h.named ∙ ap builtin_of (same-text (name_of site) (codes "leafref") hit) ∙ leafref-is) whole)
    | inr miss ↦ miss
  ]

  lone-leafrefs : is_whole builtin ≡ true → filter is_leafref (site ∷ []) ≡ []
  lone-leafrefs whole = rw (not-leafref whole) refl

  pub no-leafrefs : (steps : ℕ) → is_whole builtin ≡ true → filter is_leafref (under steps modules site) ≡ []
  unfolding under
  no-leafrefs zero whole = lone-leafrefs whole
  no-leafrefs (suc n) whole = rw no-rest (lone-leafrefs whole)
