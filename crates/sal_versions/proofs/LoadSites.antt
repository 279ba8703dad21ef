-- The type statements of the load's module, and the statements of its nodes.
use Prim.Native.String.{String}
use Rattle.std.proofs.Common.{◌≡◌, ◌+◌, ◌∙◌, ℕ, suc, true, false, List, [], ◌∷◌, Some, codes, is_some, refl}
use Rattle.std.specs.List.{flat_map}
use Rattle.sal_stmt.specs.declared.stmt.Stmt.{Stmt}
use Rattle.sal_stmt.specs.declared.stmt.Stmt.TheViews.{out-roll-Stmt}
use Rattle.sal_module.specs.declared.keyword.Keyword.TheVariants as word
use Rattle.sal_module.specs.Keywords.{same, words, keyword_of, word_of}
use Rattle.sal_module.specs.Places.{find_at}
use Rattle.sal_module.specs.Statements.{subs_of, is_named}
use Rattle.sal_typedefs.specs.Scopes.{Site, within, top, way_to, place_of}
use Rattle.sal_module_table.specs.Types.{is_read, types_in, types_of}
use Rattle.sal_versions.proofs.LoadText.{stmt, leaf_at, cell_list, module_stmt, its_stmts}
use Rattle.sal_versions.proofs.LoadTypes.{type_stmt, site}

abbrev pub place : String → String → ℕ → List Stmt → List Stmt → Site
place keyword arg at subs around = record { «module» = 0; stmt = stmt keyword arg at subs; around = around }

passes : (n : ℕ) (keyword arg : String) (at : ℕ) (subs around : List Stmt)
    → is_some (keyword_of (codes keyword)) ≡ true → same (codes keyword) (word_of word.Extension) ≡ false → same (codes keyword) (word_of word.Type) ≡ false
    → types_in (suc n) (place keyword arg at subs around) ≡ flat_map (λ sub. types_in n (within (place keyword arg at subs around) sub)) subs
unfolding types_in
passes n keyword arg at subs around known plain other = simp (out-roll-Stmt, subs_of, is_named, is_read, known, plain, other)

itself : (n at : ℕ) (around : List Stmt) → types_in (suc n) (site at around) ≡ site at around ∷ []
unfolding types_in words keyword_of word_of
itself n at around = simp (out-roll-Stmt, subs_of, is_named, is_read)

in_leaf : (n : ℕ) (name : String) (at : ℕ) (around : List Stmt)
    → types_in (suc (suc n)) (place "leaf" name at (type_stmt (at + 9) ∷ []) around) ≡ site (at + 9) (leaf_at name at ∷ around) ∷ []
unfolding words keyword_of word_of
in_leaf n name at around = passes (suc n) "leaf" name at (type_stmt (at + 9) ∷ []) around refl refl refl ∙ rw (itself n (at + 9) (leaf_at name at ∷ around)) refl

no_types : (n : ℕ) (keyword arg : String) (at : ℕ) (around : List Stmt)
    → is_some (keyword_of (codes keyword)) ≡ true → same (codes keyword) (word_of word.Extension) ≡ false → same (codes keyword) (word_of word.Type) ≡ false
    → types_in (suc n) (place keyword arg at [] around) ≡ []
no_types n keyword arg at around known plain other = passes n keyword arg at [] around known plain other

abbrev pub in_list : List Stmt
in_list = cell_list ∷ module_stmt ∷ []

abbrev pub site_k : Site
site_k = site 74 (leaf_at "k" 65 ∷ in_list)

abbrev pub site_v : Site
site_v = site 98 (leaf_at "v" 89 ∷ in_list)

types_in_list : types_in 63 (within (top 0 module_stmt) cell_list) ≡ site_k ∷ site_v ∷ []
unfolding words keyword_of word_of
types_in_list =
    passes 62 "list" "cell" 46 (stmt "key" "k" 58 [] ∷ leaf_at "k" 65 ∷ leaf_at "v" 89 ∷ []) (module_stmt ∷ []) refl refl refl
    ∙ rw (no_types 61 "key" "k" 58 in_list refl refl refl, in_leaf 60 "k" 65 in_list, in_leaf 60 "v" 89 in_list) refl

pub its_types : types_of its_stmts ≡ site_k ∷ site_v ∷ []
unfolding words keyword_of word_of
its_types =
    rw (
      passes 63 "module" "load" 0 (stmt "namespace" "urn:load" 14 [] ∷ stmt "prefix" "l" 36 [] ∷ cell_list ∷ []) [] refl refl refl,
      no_types 62 "namespace" "urn:load" 14 (module_stmt ∷ []) refl refl refl,
      no_types 62 "prefix" "l" 36 (module_stmt ∷ []) refl refl refl,
      types_in_list,
    ) refl

-- ---- the statements of the nodes

pub at_list : find_at 64 46 module_stmt ≡ Some cell_list
unfolding find_at
at_list = simp (subs_of, out-roll-Stmt)

pub at_k : find_at 64 65 module_stmt ≡ Some (leaf_at "k" 65)
unfolding find_at
at_k = simp (subs_of, out-roll-Stmt)

pub at_v : find_at 64 89 module_stmt ≡ Some (leaf_at "v" 89)
unfolding find_at
at_v = simp (subs_of, out-roll-Stmt)

pub way_to_k : way_to 64 65 (top 0 module_stmt) ≡ Some (place "leaf" "k" 65 (type_stmt 74 ∷ []) in_list)
unfolding way_to
way_to_k = simp (place_of, subs_of, out-roll-Stmt)

pub way_to_v : way_to 64 89 (top 0 module_stmt) ≡ Some (place "leaf" "v" 89 (type_stmt 98 ∷ []) in_list)
unfolding way_to
way_to_v = simp (place_of, subs_of, out-roll-Stmt)
