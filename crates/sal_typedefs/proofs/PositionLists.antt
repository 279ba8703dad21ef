-- Positions of bits: without faults they are from 0 to 63.
use Rattle.std.proofs.Common.{◌≡◌, ℕ, ℤ, pos, ◌≤ℤ◌, List, [], ◌∷◌, ◌++◌, map, fold, Bool, true, false, not, ◌||◌, ◌==◌, nat_le, Option, Some, None, is_some, unwrap_or, refl, ◌∙◌, sym, inl, inr, arith, append-nil}
use Rattle.std.specs.Prelude.{All, int_lt}
use Rattle.std.specs.Int.{int_max}
use Rattle.std.specs.List.{flat_map}
use Rattle.std.specs.Option.{option_to_list}
use Rattle.std.proofs.lemmas.Bool.{cases_Bool, or_parts, and_parts}
use Rattle.std.proofs.lemmas.Bool.Decides.{nat_tests}
use Rattle.std.proofs.lemmas.Int.{ints, fold-int_max_bounds}
use Rattle.std.proofs.lemmas.List.Elements.{All-nil, All-head, All-tail, All-push}
use Rattle.sal_stmt.specs.declared.stmt.Stmt.{Stmt}
use Rattle.sal_stmt.specs.Words.{first}
use Rattle.sal_module.specs.declared.fault.Found.{Found}
use Rattle.sal_module.specs.Arguments.{decimal, is_whole}
use Rattle.sal_module.specs.Faults.{least}
use Rattle.sal_module.specs.Keywords.{same}
use Rattle.sal_module.specs.Statements.{all_named, argument_of}
use Rattle.sal_restrict.specs.declared.yang_type.YangType.{YangType}
use Rattle.sal_restrict.specs.declared.yang_type.YangType.TheOpen.{YangType-F}
use Rattle.sal_typedefs.specs.declared.entry.Entry.{Entry}
use Rattle.sal_typedefs.specs.declared.entry.Numbering.TheVariants.{Enums, Bits}
use Rattle.sal_typedefs.specs.Entries.{item_of, has_form, integer, text_of, stated, is_malformed, has_name, has_number, greatest, next, number_of, is_bad, named, entry_of, entries_of, entry_faults}
use Rattle.sal_typedefs.specs.Restrictions.{Base, Layer, IsPosition, HasPositions, with_digits, numbering_of, choices, faults_by}
use Rattle.sal_typedefs.specs.Types.{takes_all, entries_in, restricted}
use Rattle.sal_typedefs.proofs.LeastLists.{least-some}

-- ---- one name

pub yes-not : (b : Bool) → not b ≡ false → b ≡ true
yes-not true e = refl
yes-not false e = cc

-- one more than the greatest of no negative numbers
next-positive : (entries : List Entry) → All IsPosition entries → pos 0 ≤ℤ next entries
next-positive [] all = omega (arith, ints)
next-positive (e ∷ entries) all =
    let here = (All-head IsPosition e entries all).0 in
    let most = (fold-int_max_bounds e.number (map (λ (e : Entry). e.number) entries) (fold int_max e.number (map (λ (e : Entry). e.number) entries)) refl).0 in
    omega (arith, ints, here, most)

no-minus : (t : List ℕ) → is_whole t ≡ true → (first t == 45) ≡ false
no-minus [] e = cc
no-minus (c ∷ t) e = grind (arith, nat_tests)

written-positive : (t : List ℕ) → has_form Bits t ≡ true → pos 0 ≤ℤ integer t
written-positive t e = let plus = no-minus t (and_parts (is_whole t) (nat_le (decimal t) 63) e).0 in rw plus (omega (arith, ints))

stated-positive : (text : Option (List ℕ)) (next : ℤ) → pos 0 ≤ℤ next → is_malformed Bits text ≡ false → pos 0 ≤ℤ unwrap_or (stated Bits text) next
stated-positive None next h e = h
stated-positive (Some t) next h e = let form = yes-not (has_form Bits t) e in rw form (written-positive t form)

not-greater : (n : ℤ) → int_lt (pos 63) n ≡ false → n ≤ℤ pos 63
not-greater n e = grind (arith, ints)

own-position : (before : List Entry) (stmt : Stmt) → All IsPosition before → is_bad Bits before stmt ≡ false → IsPosition (entry_of Bits None before stmt)
own-position before stmt all good =
    let name = argument_of stmt in
    let number = number_of Bits before stmt in
    let parts = or_parts ((has_name name before || has_number number before) || int_lt (greatest Bits) number) (is_malformed Bits (text_of Bits stmt)) good in
    let less = or_parts (has_name name before || has_number number before) (int_lt (greatest Bits) number) parts.0 in
    (stated-positive (text_of Bits stmt) (next before) (next-positive before all) parts.1, not-greater number less.1)

named-position : (name : List ℕ) (from : List Entry) (d : Entry) → All IsPosition from → IsPosition d → IsPosition (unwrap_or (named name from) d)
named-position name [] d all h = h
named-position name (e ∷ from) d all h = elim (cases_Bool (same e.name name)) [
  | inl here ↦ rw here (All-head IsPosition e from all)
  | inr other ↦ rw other (named-position name from d (All-tail IsPosition e from all) h)
]

-- ---- all names

own-positions : (m : ℕ) (before : List Entry) (stmts : List Stmt) → All IsPosition before → entry_faults Bits None m before stmts ≡ [] → All IsPosition (entries_of Bits None before stmts)
own-positions m before [] all none = all
own-positions m before (stmt ∷ stmts) all none = elim (cases_Bool (is_bad Bits before stmt)) [
  | inl bad ↦ let h = rw bad at none in cc
  | inr good ↦
      let one = entry_of Bits None before stmt in
      let h : entry_faults Bits None m (before ++ one ∷ []) stmts ≡ [] = rw good at none in
      own-positions m (before ++ one ∷ []) stmts (All-push IsPosition before one all (own-position before stmt all good)) h
]

chosen-positions : (from before : List Entry) (stmts : List Stmt) → All IsPosition from → All IsPosition before → All IsPosition (entries_of Bits (Some from) before stmts)
chosen-positions from before [] all so_far = so_far
chosen-positions from before (stmt ∷ stmts) all so_far =
    let zero : Entry = record { name = argument_of stmt; number = pos 0 } in
    let one = entry_of Bits (Some from) before stmt in
    let here : IsPosition one = named-position (argument_of stmt) from zero all (omega (arith, ints), omega (arith, ints)) in
    chosen-positions from (before ++ one ∷ []) stmts all (All-push IsPosition before one so_far here)

pub none-least : (best : Option Found) (xs : List Found) → is_some (least best xs) ≡ false → xs ≡ []
none-least best [] e = refl
none-least None (x ∷ xs) e = let some = least-some x xs in cc
none-least (Some b) (x ∷ xs) e = let some = least-some b (x ∷ xs) in cc

-- ---- a type

pub positions-none : (layer : Layer) → HasPositions layer []
positions-none (YangType-F.Bits names positions) = All-nil IsPosition
positions-none layer = tt

-- the names that a statement lists, if none has a fault
pub positions-listed : (base : Base) (m : ℕ) (stmt : Stmt) (best : Option Found) (layer : Layer) → HasPositions layer base.entries
    → is_some (least best (flat_map (faults_by base m stmt) (option_to_list (numbering_of layer)))) ≡ false → HasPositions layer (entries_in base stmt layer)
positions-listed base m stmt best (YangType-F.Bits names positions) has none = elim (cases_Bool (takes_all Bits base stmt)) [
  | inl takes ↦ rw takes has
  | inr other ↦
      let stmts = all_named (item_of Bits) stmt in
      let faults : entry_faults Bits (choices base) m [] stmts ++ [] ≡ [] = none-least best (entry_faults Bits (choices base) m [] stmts ++ []) none in
      rw other (elim (cases_Bool base.itself) [
        | inl own ↦ let h = rw own at faults in rw own (own-positions m [] stmts (All-nil IsPosition) (sym (append-nil (entry_faults Bits None m [] stmts)) ∙ h))
        | inr given ↦ rw given (chosen-positions base.entries [] stmts has (All-nil IsPosition))
      ])
]
positions-listed base m stmt best layer has none = tt

-- a restricted type is of the same kind
pub positions-kept : (modules : List Stmt) (m : ℕ) (base : Base) (stmt : Stmt) (below : List YangType) (entries : List Entry) (layer : Layer) → HasPositions layer entries
    → HasPositions (restricted modules m base stmt below entries layer) entries
positions-kept modules m base stmt below entries (YangType-F.Bits names positions) has = elim (cases_Bool (takes_all Bits base stmt)) [ inl e ↦ rw e has | inr e ↦ rw e has ]
positions-kept modules m base stmt below entries (YangType-F.Enum names places) has = elim (cases_Bool (takes_all Enums base stmt)) [ inl e ↦ rw e tt | inr e ↦ rw e tt ]
positions-kept modules m base stmt below entries layer has = tt

pub positions-digits : (digits : ℕ) (entries : List Entry) (layer : Layer) → HasPositions layer entries → HasPositions (with_digits digits layer) entries
positions-digits digits entries (YangType-F.Dec old range) has = tt
positions-digits digits entries layer has = has
