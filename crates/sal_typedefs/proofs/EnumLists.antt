-- Names of an enumeration: if none has a fault their numbers differ and have 32 bits, so there are at most 2^32.
use Rattle.std.proofs.Common.{◌≡◌, ℕ, zero, suc, ◌+◌, ◌-◌, ◌<◌, ◌≤◌, ℤ, pos, negsuc, neg_ℤ, ◌≤ℤ◌, List, [], ◌∷◌, ◌++◌, length, map, fold, drop, get_or, true, false, ◌||◌, ◌==◌, nat_le, Option, Some, None, is_some, unwrap_or, refl, ◌∙◌, sym, ap, inl, inr, arith, append-nil}
use Rattle.std.specs.Prelude.{All, int_lt}
use Rattle.std.specs.Int.{int_max}
use Rattle.std.specs.List.{flat_map}
use Rattle.std.specs.Option.{option_to_list}
use Rattle.std.specs.Ordering.{int_eq}
use Rattle.std.specs.Cmp.{signed_Decides}
use Rattle.std.proofs.lemmas.Bool.{cases_Bool, cases_lt, and_parts, or_parts}
use Rattle.std.proofs.lemmas.Bool.Decides.{nat_tests}
use Rattle.std.proofs.lemmas.Int.{ints, fold-int_max_bounds}
use Rattle.std.proofs.lemmas.List.{get_or_append_left, get_or-append_right, length-append}
use Rattle.std.proofs.lemmas.List.Elements.{All-nil, All-head, All-push}
use Rattle.std.proofs.lemmas.List.Folds.{list_any_at}
use Rattle.sal_typedefs.proofs.Pigeonhole.{pigeonhole}
use Rattle.sal_stmt.specs.declared.stmt.Stmt.{Stmt}
use Rattle.sal_stmt.specs.Words.{first}
use Rattle.sal_module.specs.declared.fault.Found.{Found}
use Rattle.sal_module.specs.Arguments.{decimal, is_whole}
use Rattle.sal_module.specs.Faults.{least}
use Rattle.sal_module.specs.Statements.{all_named, argument_of}
use Rattle.sal_restrict.specs.declared.yang_type.YangType.TheOpen.{YangType-F}
use Rattle.sal_typedefs.specs.declared.entry.Entry.{Entry}
use Rattle.sal_typedefs.specs.declared.entry.Numbering.TheVariants.{Enums}
use Rattle.sal_typedefs.specs.Entries.{item_of, has_form, integer, text_of, stated, is_malformed, has_name, has_number, greatest, next, number_of, is_bad, entry_of, entries_of, entry_faults}
use Rattle.sal_typedefs.specs.Restrictions.{Base, Layer, HasPlaces, numbering_of, choices, faults_by}
use Rattle.sal_typedefs.specs.Types.{entries_in}
use Rattle.sal_typedefs.proofs.PositionLists.{yes-not, none-least}

-- ---- one name

abbrev IsNumber : Entry → Type 0
IsNumber e = (negsuc 2147483647 ≤ℤ e.number) × (e.number ≤ℤ pos 2147483647)

next-number : (entries : List Entry) → All IsNumber entries → negsuc 2147483647 ≤ℤ next entries
next-number [] all = omega (arith, ints)
next-number (e ∷ entries) all =
    let here = (All-head IsNumber e entries all).0 in
    let most = (fold-int_max_bounds e.number (map (λ (e : Entry). e.number) entries) (fold int_max e.number (map (λ (e : Entry). e.number) entries)) refl).0 in
    omega (arith, ints, here, most)

negative-number : (d : ℕ) → nat_le d 2147483648 ≡ true → negsuc 2147483647 ≤ℤ neg_ℤ (pos d)
negative-number zero e = omega (arith, ints)
negative-number (suc d) e = let few : suc d ≤ 2147483648 = grind (arith, nat_tests) in omega (arith, ints)

written-number : (t : List ℕ) → has_form Enums t ≡ true → negsuc 2147483647 ≤ℤ integer t
written-number t e = elim (cases_Bool (first t == 45)) [
  | inl minus ↦ let form = rw minus at e in rw minus (negative-number (decimal (drop 1 t)) (and_parts (is_whole (drop 1 t)) (nat_le (decimal (drop 1 t)) 2147483648) form).1)
  | inr plus ↦ rw plus (omega (arith, ints))
]

stated-number : (text : Option (List ℕ)) (next : ℤ) → negsuc 2147483647 ≤ℤ next → is_malformed Enums text ≡ false → negsuc 2147483647 ≤ℤ unwrap_or (stated Enums text) next
stated-number None next h e = h
stated-number (Some t) next h e = let form = yes-not (has_form Enums t) e in rw form (written-number t form)

not-greater : (n : ℤ) → int_lt (pos 2147483647) n ≡ false → n ≤ℤ pos 2147483647
not-greater n e = grind (arith, ints)

-- the number of a good name
good-name : (before : List Entry) (stmt : Stmt) → is_bad Enums before stmt ≡ false
    → (has_number (number_of Enums before stmt) before ≡ false) × (number_of Enums before stmt ≤ℤ pos 2147483647) × (is_malformed Enums (text_of Enums stmt) ≡ false)
good-name before stmt good =
    let name = argument_of stmt in
    let number = number_of Enums before stmt in
    let parts = or_parts ((has_name name before || has_number number before) || int_lt (greatest Enums) number) (is_malformed Enums (text_of Enums stmt)) good in
    let less = or_parts (has_name name before || has_number number before) (int_lt (greatest Enums) number) parts.0 in
    let other = or_parts (has_name name before) (has_number number before) less.0 in
    (other.1, not-greater number less.1, parts.1)

-- ---- numbers that differ

abbrev none : Entry
none = record { name = []; number = pos 0 }

abbrev AreApart : List Entry → Type 0
AreApart es = (i j : ℕ) → i < j → j < length es → int_eq (get_or es i none).number (get_or es j none).number ≡ false

not-among : (n : ℤ) (es : List Entry) (i : ℕ) → i < length es → has_number n es ≡ false → int_eq (get_or es i none).number n ≡ false
not-among n es i lt e = elim (cases_Bool (int_eq (get_or es i none).number n)) [
  | inl same ↦ let there : has_number n es ≡ true = list_any_at (λ (e : Entry). int_eq e.number n) es i none lt same in cc
  | inr other ↦ other
]

apart-push : (es : List Entry) (e : Entry) → AreApart es → has_number e.number es ≡ false → AreApart (es ++ e ∷ [])
apart-push es e apart new i j less within =
    let long : length (es ++ e ∷ []) ≡ length es + 1 = length-append es (e ∷ []) in
    let front : get_or (es ++ e ∷ []) i none ≡ get_or es i none = get_or_append_left es (e ∷ []) none i (omega (arith, long)) in
    elim (cases_lt j (length es)) [
      | inl before ↦ rw (front, get_or_append_left es (e ∷ []) none j before) (apart i j less before)
      | inr after ↦
          let place : j - length es ≡ 0 = omega (arith, long) in
          let last : get_or (es ++ e ∷ []) j none ≡ e = get_or-append_right es (e ∷ []) (length es) j none refl after ∙ rw place refl in
          rw (front, last) (not-among e.number es i (omega (arith, long)) new)
    ]

-- a number of 32 bits with a sign, counted from the lowest
abbrev offset : ℤ → ℕ
offset (pos n) = n + 2147483648
offset (negsuc n) = 2147483647 - n

offset-below : (n : ℤ) → negsuc 2147483647 ≤ℤ n → n ≤ℤ pos 2147483647 → offset n < 4294967296
offset-below (pos n) low high = let h : n ≤ 2147483647 = omega (arith, ints) in omega arith
offset-below (negsuc n) low high = omega arith

offset-same : (a b : ℤ) → negsuc 2147483647 ≤ℤ a → negsuc 2147483647 ≤ℤ b → offset a ≡ offset b → a ≡ b
offset-same (pos a) (pos b) low low' e = let same : a ≡ b = omega arith in ap pos same
offset-same (pos a) (negsuc b) low low' e = absurd (omega arith)
offset-same (negsuc a) (pos b) low low' e = absurd (omega arith)
offset-same (negsuc a) (negsuc b) low low' e =
    let h : a ≤ 2147483647 = omega (arith, ints) in
    let h' : b ≤ 2147483647 = omega (arith, ints) in
    let same : a ≡ b = omega arith in ap negsuc same

module _ (es : List Entry) (all : All IsNumber es) (apart : AreApart es) where
  abbrev number : ℕ → ℤ
  number i = (get_or es i none).number

  abbrev place : ℕ → ℕ
  place i = offset (number i)

  differ : (i j : ℕ) → i < j → j < length es → place i ≡ place j → ⊥
  differ i j less lt e =
      let same : number i ≡ number j = offset-same (number i) (number j) (all i none (omega arith)).0 (all j none lt).0 e in
      let equal : int_eq (number i) (number j) ≡ true = (signed_Decides (number i) (number j)).1 same in
      let other : int_eq (number i) (number j) ≡ false = apart i j less lt in cc

  one : (i j : ℕ) → i < length es → j < length es → place i ≡ place j → i ≡ j
  one i j p q e = elim (cases_lt i j) [
    | inl less ↦ absurd (differ i j less q e)
    | inr more ↦ elim (cases_lt j i) [ inl less ↦ absurd (differ j i less p (sym e)) | inr rest ↦ omega arith ]
  ]

  apart-few : length es ≤ 4294967296
  apart-few = pigeonhole (length es) 4294967296 place (λ i lt. offset-below (number i) (all i none lt).0 (all i none lt).1) one

-- ---- all names

own-enums : (m : ℕ) (before : List Entry) (stmts : List Stmt) → All IsNumber before → AreApart before → entry_faults Enums None m before stmts ≡ []
    → length (entries_of Enums None before stmts) ≤ 4294967296
own-enums m before [] all apart e = apart-few before all apart
own-enums m before (stmt ∷ stmts) all apart e = elim (cases_Bool (is_bad Enums before stmt)) [
  | inl bad ↦ let h = rw bad at e in cc
  | inr good ↦
      let one = entry_of Enums None before stmt in
      let h : entry_faults Enums None m (before ++ one ∷ []) stmts ≡ [] = rw good at e in
      let tells = good-name before stmt good in
      let low = stated-number (text_of Enums stmt) (next before) (next-number before all) tells.2 in
      let here : IsNumber one = (low, tells.1) in
      own-enums m (before ++ one ∷ []) stmts (All-push IsNumber before one all here) (apart-push before one apart tells.0) h
]

pub places-listed : (base : Base) (m : ℕ) (stmt : Stmt) (best : Option Found) (layer : Layer)
    → is_some (least best (flat_map (faults_by base m stmt) (option_to_list (numbering_of layer)))) ≡ false → HasPlaces base.itself layer (entries_in base stmt layer)
places-listed base m stmt best (YangType-F.Enum names places) good = λ own.
    let stmts = all_named (item_of Enums) stmt in
    let faults : entry_faults Enums (choices base) m [] stmts ++ [] ≡ [] = none-least best (entry_faults Enums (choices base) m [] stmts ++ []) good in
    let h = rw own at faults in
    rw own (own-enums m [] stmts (All-nil IsNumber) (λ i j less lt. absurd (omega arith)) (sym (append-nil (entry_faults Enums None m [] stmts)) ∙ h))
places-listed base m stmt best layer good = tt
