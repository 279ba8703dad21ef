-- The name that is written for an identity names it.
use Rattle.std.proofs.Common.{◌≡◌, ℕ, zero, suc, ◌+◌, ◌<◌, ◌==◌, nat_lt, true, false, if◌then◌else◌, List, [], ◌∷◌, ◌++◌, length, take, drop, Option, Some, None, IsTrue, refl, ap, sym, subst, ◌∙◌, inl, inr, arith}
use Rattle.std.specs.Prelude.{Contains, option_map}
use Rattle.std.specs.Option.{option_map_or, option_and_then}
use Rattle.std.specs.List.{list_all, list_any, slice_get, position_or_len, before_first, after_first}
use Rattle.std.proofs.lemmas.Bool.{cases_Bool, and_parts, or_right, or_from, or_parts}
use Rattle.std.proofs.lemmas.Bool.Decides.{nat_tests}
use Rattle.std.proofs.lemmas.List.Sorted.{IsPermutation-refl}
use Rattle.sal_schema.specs.declared.names.Named.{Named}
use Rattle.sal_schema.specs.declared.table.IdentityInfo.{IdentityInfo}
use Rattle.sal_schema.specs.declared.table.SchemaTable.{SchemaTable}
use Rattle.sal_schema.specs.Names.{lookup, are_distinct, module_names, identity_names, named, name_of_parts, identity_of}
use Rattle.sal_schema.specs.Table.{each_from, module_name}
use Rattle.sal_schema.specs.Valid.{IsTable, is_identifier, starts_identifier, goes_on, is_good_identity}
use Rattle.sal_schema.proofs.Conjuncts.{and_first, and_second}
use Rattle.sal_schema.proofs.Facts.{slice_get_some, slice_get_there}
use Rattle.sal_schema.proofs.Numbered.{list_all-at, all_from-at}
use Rattle.sal_schema.proofs.Searched.{lookup-Finds}
use Rattle.sal_json.specs.Named.{is_colon, identity_called, identity_text}
use Rattle.sal_schema.proofs.Children.{first_default, called_itself}

-- ---- a text with a colon

no_colon_byte : (c : ℕ) → goes_on c ≡ true → is_colon c ≡ false
no_colon_byte c e = elim (cases_Bool (is_colon c)) [
  | inl colon ↦ let same : c ≡ 58 = grind (arith, nat_tests) in let never : goes_on 58 ≡ true = ap goes_on (sym same) ∙ e in cc
  | inr other ↦ other
]

starts_goes_on : (c : ℕ) → starts_identifier c ≡ true → is_colon c ≡ false
starts_goes_on c e = elim (cases_Bool (is_colon c)) [
  | inl colon ↦ let same : c ≡ 58 = grind (arith, nat_tests) in let never : starts_identifier 58 ≡ true = ap starts_identifier (sym same) ∙ e in cc
  | inr other ↦ other
]

no_colon_rest : (t : List ℕ) → list_all goes_on t ≡ true → list_any is_colon t ≡ false
no_colon_rest [] e = refl
no_colon_rest (c ∷ t) e = let (here, rest) = and_parts (goes_on c) (list_all goes_on t) e in or_from _ _ (no_colon_byte c here) (no_colon_rest t rest)

pub no_colon : (t : List ℕ) → IsTrue (is_identifier t) → list_any is_colon t ≡ false
no_colon [] e = refl
no_colon (c ∷ t) e = or_from _ _ (starts_goes_on c (and_first (starts_identifier c) (list_all goes_on t) e)) (no_colon_rest t (and_second (starts_identifier c) (list_all goes_on t) e))

module _ (b : List ℕ) where
  pub colon-at : (a : List ℕ) → list_any is_colon a ≡ false → position_or_len is_colon (a ++ 58 ∷ b) ≡ length a
  colon-at [] none = refl
  colon-at (c ∷ a) none =
      let (here, rest) = or_parts (is_colon c) (list_any is_colon a) none in
      let more = colon-at a rest in
      rw here (omega arith)

  pub take-front : (a : List ℕ) → take (length a) (a ++ 58 ∷ b) ≡ a
  take-front [] = refl
  take-front (c ∷ a) = ap (λ t. c ∷ t) (take-front a)

  pub drop-front : (a : List ℕ) → drop (length a + 1) (a ++ 58 ∷ b) ≡ b
  drop-front [] = refl
  drop-front (c ∷ a) = let more : suc (length a) + 1 ≡ suc (length a + 1) = omega arith in rw more (drop-front a)

  pub colon-there : (a : List ℕ) → list_any is_colon (a ++ 58 ∷ b) ≡ true
  colon-there [] = refl
  colon-there (c ∷ a) = or_right _ _ (colon-there a)

-- ---- elements listed under their own names

module _ {X : Type 0} (f : ℕ → X → Named) where
  listed : (xs : List X) (i k : ℕ) (x : X) → slice_get xs k ≡ Some x → Contains (each_from (λ n y. f n y ∷ []) i xs) (f (i + k) x)
  listed [] i k x e = cc
  listed (y ∷ xs) i zero x e = let same : y ≡ x = cc in let start : i ≡ i + 0 = omega arith in (0, omega arith, λ j. f (start j) (same j))
  listed (y ∷ xs) i (suc k) x e =
      let (place, inside, here) = listed xs (i + 1) k x e in
      let next : (i + 1) + k ≡ i + suc k = omega arith in
      subst (λ n. Contains (each_from (λ n y. f n y ∷ []) i (y ∷ xs)) (f n x)) next (suc place, omega arith, here)

found_itself : (names : List Named) (entry : Named) → IsTrue (are_distinct names) → Contains names entry → lookup names entry.name ≡ Some entry.number
found_itself names entry distinct there = sym (lookup-Finds names names entry.name (Some entry.number) distinct (IsPermutation-refl names) (entry, there, called_itself entry, refl))

module _ (table : SchemaTable) (good : IsTable table) where
  module_found : (k : ℕ) (text : List ℕ) → slice_get table.modules k ≡ Some text → lookup (module_names table) (name_of_parts None 0 text) ≡ Some k
  module_found k text e =
      let none : 0 + k ≡ k = omega arith in
      found_itself (module_names table) (named None 0 text k) good.distinct.modules (subst (λ n. Contains (module_names table) (named None 0 text n)) none (listed (λ n text. named None 0 text n) table.modules 0 k text e))

  identity_found : (i : ℕ) (info : IdentityInfo) → slice_get table.identities i ≡ Some info → lookup (identity_names table) (name_of_parts None info.module info.name) ≡ Some i
  identity_found i info e =
      let none : 0 + i ≡ i = omega arith in
      found_itself (identity_names table) (named None info.module info.name i) good.distinct.identities
      (subst (λ n. Contains (identity_names table) (named None info.module info.name n)) none (listed (λ n (identity : IdentityInfo). named None identity.module identity.name n) table.identities 0 i info e))

  pub identity_again : (m i : ℕ) → i < length table.identities → identity_called table m (identity_text table m i) ≡ Some i
  identity_again m i inside =
      let (info, there) = slice_get_there table.identities i inside in
      let (at, here) = slice_get_some table.identities i info there in
      let right = subst (λ (x : IdentityInfo). IsTrue (is_good_identity table i x)) (sym here) (all_from-at (is_good_identity table) 0 table.identities i i info good.identities inside (omega arith)) in
      let front = and_first _ _ (and_first _ _ right) in
      let named_well = and_first (is_identifier info.name) (nat_lt info.module (length table.modules)) front in
      let below = and_second (is_identifier info.name) (nat_lt info.module (length table.modules)) front in
      let known : info.module < length table.modules = grind (arith, nat_tests) in
      let (text, of_module) = slice_get_there table.modules info.module known in
      let (at2, here2) = slice_get_some table.modules info.module text of_module in
      let module_well : IsTrue (is_identifier text) = subst (λ t. IsTrue (is_identifier t)) (sym here2) (list_all-at is_identifier table.modules info.module text good.module_names known) in
      let spelled : module_name table info.module ≡ text = first_default table.modules info.module [] text of_module in
      let named_so : identity_of table text info.name ≡ Some i =
      ap (λ o. option_and_then (λ k. lookup (identity_names table) (name_of_parts None k info.name)) o) (module_found info.module text of_module) ∙ identity_found i info there in
      let written : identity_text table m i ≡ (if info.module == m then info.name else text ++ 58 ∷ info.name) =
      ap (λ (o : Option IdentityInfo). option_map_or (λ own. if own == m then option_map_or (λ (x : IdentityInfo). x.name) o [] else module_name table own ++ 58 ∷ option_map_or (λ (x : IdentityInfo). x.name) o []) (option_map (λ (x : IdentityInfo). x.module) o) []) there
      ∙ ap (λ t. if info.module == m then info.name else t ++ 58 ∷ info.name) spelled in
      let none = no_colon info.name named_well in
      let clean = no_colon text module_well in
      elim (cases_Bool (info.module == m)) [
        | inl own ↦
            let same : m ≡ info.module = grind (arith, nat_tests) in
            let short : identity_text table m i ≡ info.name = written ∙ ap (λ b. if b then info.name else text ++ 58 ∷ info.name) own in
            ap (identity_called table m) short
            ∙ ap (λ b. if b then identity_of table (before_first is_colon info.name) (after_first is_colon info.name) else identity_of table (module_name table m) info.name) none
            ∙ ap (λ k. identity_of table (module_name table k) info.name) same ∙ ap (λ t. identity_of table t info.name) spelled ∙ named_so
        | inr other ↦
            let long : identity_text table m i ≡ text ++ 58 ∷ info.name = written ∙ ap (λ b. if b then info.name else text ++ 58 ∷ info.name) other in
            let whole = text ++ 58 ∷ info.name in
            let at3 = colon-at info.name text clean in
            let before : before_first is_colon whole ≡ text = ap (λ k. take k whole) at3 ∙ take-front info.name text in
            let after : after_first is_colon whole ≡ info.name = ap (λ k. drop (k + 1) whole) at3 ∙ drop-front info.name text in
            ap (identity_called table m) long
            ∙ ap (λ b. if b then identity_of table (before_first is_colon whole) (after_first is_colon whole) else identity_of table (module_name table m) whole) (colon-there info.name text)
            ∙ (λ j. identity_of table (before j) (after j)) ∙ named_so
      ]
