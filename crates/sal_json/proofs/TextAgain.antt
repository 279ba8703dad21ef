-- The text of what was read reads as it.
use Rattle.std.proofs.Common.{◌≡◌, ℕ, zero, suc, ◌<◌, ◌==◌, nat_lt, ℤ, pos, negsuc, Bool, true, false, not, ◌&&◌, if◌then◌else◌, List, [], ◌∷◌, length, get_or, Some, None, Result, Ok, Err, codes, refl, ap, sym, subst, ◌∙◌, inl, inr, arith}
use Rattle.std.specs.Prelude.{nat_eq}
use Rattle.std.specs.Option.{option_and_then}
use Rattle.std.specs.Result.{result_ok}
use Rattle.std.specs.Str.{chars}
use Rattle.std.specs.List.{list_all, list_any, slice_get, position}
use Rattle.std.proofs.lemmas.Bool.{cases_Bool, and_parts}
use Rattle.std.proofs.lemmas.Bool.Decides.{nat_tests}
use Rattle.std.proofs.lemmas.List.Quantifiers.{position-Some}
use Rattle.std.proofs.lemmas.List.Sums.{position_or_len_is}
use Rattle.base64.specs.declared.decode.DecodeError.{DecodeError}
use Rattle.base64.specs.Engines.{standard}
use Rattle.base64.specs.GeneralPurpose.{decode_of, decoded_of, encode_of, IsBytes}
use Rattle.base64.proofs.EngineFacts.{decode_of_strict}
use Rattle.sal_types.specs.declared.value.Atom.{Atom}
use Rattle.sal_types.specs.declared.value.Atom.TheVariants.{Signed, Unsigned, Text, Bool as BoolAtom, Enum, Bin, Empty}
use Rattle.sal_restrict.specs.declared.ranges.Part.{Part}
use Rattle.sal_restrict.specs.declared.yang_type.Pattern.{Pattern}
use Rattle.sal_restrict.specs.declared.yang_type.YangType.{YangType}
use Rattle.sal_restrict.specs.declared.yang_type.YangType.TheOpen.{YangType-F}
use Rattle.sal_restrict.specs.Ranges.{holds}
use Rattle.sal_schema.specs.declared.table.SchemaTable.{SchemaTable}
use Rattle.sal_schema.specs.Valid.{all_differ}
use Rattle.sal_schema.proofs.Facts.{slice_get_some}
use Rattle.sal_json.specs.declared.fault.ScalarFault.TheVariants.{WrongKind, OutOfRange, BadLength, NoMatch, UnknownName}
use Rattle.sal_json.specs.Numerals.{is_in_64, whole_atom, is_number, number_of}
use Rattle.sal_json.specs.Named.{text_eq, number_called, name_with, name_there}
use Rattle.sal_json.specs.Patterns.{passes}
use Rattle.sal_json.specs.Read.{text_atom, bytes_of, bytes_atom}
use Rattle.sal_json.specs.Written.{atom_text}
use Rattle.sal_json.proofs.Chosen.{same_ok, chosen, otherwise, from_some}
use Rattle.sal_json.proofs.Readable.{text_eq-same}
use Rattle.sal_json.proofs.WholeTexts.{whole-IsSmall, int_readable}
pub use Rattle.sal_types.proofs.Handy.{not_true}

-- ---- names with distinct numbers

pub any-false_at : {X : Type 0} (p : X → Bool) (xs : List X) (k : ℕ) (d : X) → list_any p xs ≡ false → k < length xs → p (get_or xs k d) ≡ false
any-false_at p [] k d e inside = absurd (omega arith)
any-false_at p (x ∷ xs) zero d e inside = elim (cases_Bool (p x)) [ inl here ↦ let never = rw here at e in cc | inr here ↦ here ]
any-false_at p (x ∷ xs) (suc k) d e inside = elim (cases_Bool (p x)) [
  | inl here ↦ let never = rw here at e in cc
  | inr here ↦ let rest = rw here at e in any-false_at p xs k d rest (omega arith)
]

differ-at : (xs : List ℕ) (k i d : ℕ) → all_differ nat_eq xs ≡ true → k < i → i < length xs → nat_eq (get_or xs k d) (get_or xs i d) ≡ false
differ-at [] k i d e less inside = absurd (omega arith)
differ-at (x ∷ xs) k zero d e less inside = absurd (omega arith)
differ-at (x ∷ xs) zero (suc i) d e less inside =
    let (first, rest) = and_parts (not (list_any (nat_eq x) xs)) (all_differ nat_eq xs) e in
    any-false_at (nat_eq x) xs i d (not_true (list_any (nat_eq x) xs) first) (omega arith)
differ-at (x ∷ xs) (suc k) (suc i) d e less inside =
    let (first, rest) = and_parts (not (list_any (nat_eq x) xs)) (all_differ nat_eq xs) e in
    differ-at xs k i d rest (omega arith) (omega arith)

not_equal : (x y : ℕ) → nat_eq x y ≡ false → (x == y) ≡ false
not_equal x y e = grind (arith, nat_tests)

equal : (x y : ℕ) → x ≡ y → (x == y) ≡ true
equal x y e = grind (arith, nat_tests)

pub is_less : (i n : ℕ) → i < n → nat_lt i n ≡ true
is_less i n h = grind (arith, nat_tests)

-- the place of a number among distinct ones
pub place_of_number : (numbers : List ℕ) (i n : ℕ) → all_differ nat_eq numbers ≡ true → slice_get numbers i ≡ Some n → position (λ k. k == n) numbers ≡ Some i
place_of_number numbers i n differ e =
    let (inside, here) = slice_get_some numbers i n e in
    let before : (k : ℕ) → k < i → (get_or numbers k n == n) ≡ false =
    λ k less. not_equal (get_or numbers k n) n (ap (nat_eq (get_or numbers k n)) here ∙ differ-at numbers k i n differ less inside) in
    let at = position_or_len_is (λ k. k == n) numbers i n (omega arith) before (λ inside. equal (get_or numbers i n) n (sym here)) in
    ap (λ k. if nat_lt k (length numbers) then Some k else None) at ∙ ap (λ b. if b then Some i else None) (is_less i (length numbers) inside)

-- the name of a number that a name has is this name
pub name_again : (names : List (List ℕ)) (numbers : List ℕ) (t : List ℕ) (n : ℕ) → all_differ nat_eq numbers ≡ true → number_called names numbers t ≡ Some n → name_with names numbers n ≡ t
name_again names numbers t n differ e =
    elim (position (text_eq t) names) as (λ at. position (text_eq t) names ≡ at → option_and_then (slice_get numbers) at ≡ Some n → name_with names numbers n ≡ t) [
      | None ↦ λ was found. cc
      | Some i ↦ λ was found.
          let (inside, same, before) = position-Some (text_eq t) names i [] was in
          ap (name_there names) (place_of_number numbers i n differ found) ∙ sym (text_eq-same t (get_or names i []) same)
    ] refl e

-- ---- binary

from_ok : (r : Result (List ℕ) DecodeError) (b : List ℕ) → result_ok r ≡ Some b → r ≡ Ok b
from_ok (Ok x) b e = let same : x ≡ b = cc in ap Ok same
from_ok (Err fault) b e = cc

pub bytes_again : (t b : List ℕ) → IsBytes t → bytes_of t ≡ Some b → t ≡ encode_of standard b
unfolding decoded_of
bytes_again t b bytes e = decode_of_strict standard t b (refl, refl) bytes (from_ok (decode_of standard t) b e)

module _ (table : SchemaTable) (m : ℕ) where
  -- what is written for an atom reads as it
  abbrev pub IsAgain : YangType-F YangType → Atom → Type 0
  IsAgain layer atom = text_atom table m layer (atom_text table m layer atom) ≡ Ok atom

  whole-again : (bits : ℕ) (sign : Bool) (range : List Part) (z : ℤ) (atom : Atom) → whole_atom sign range z ≡ Ok atom → IsAgain (YangType-F.Int bits sign range) atom
  whole-again bits true range z atom e =
      let same = same_ok _ _ (chosen (is_in_64 z && holds range z) (Ok (Signed z)) OutOfRange atom e).1 in
      subst (IsAgain (YangType-F.Int bits true range)) same (int_readable bits true range z (whole-IsSmall true range z atom e) ∙ e ∙ ap Ok (sym same))
  whole-again bits false range (pos n) atom e =
      let same = same_ok _ _ (chosen (nat_lt n 18446744073709551616 && holds range (pos n)) (Ok (Unsigned n)) OutOfRange atom e).1 in
      subst (IsAgain (YangType-F.Int bits false range)) same (int_readable bits false range (pos n) (whole-IsSmall false range (pos n) atom e) ∙ e ∙ ap Ok (sym same))
  whole-again bits false range (negsuc n) atom e = cc

  pub int-again : (bits : ℕ) (sign : Bool) (range : List Part) (t : List ℕ) (atom : Atom) → text_atom table m (YangType-F.Int bits sign range) t ≡ Ok atom → IsAgain (YangType-F.Int bits sign range) atom
  int-again bits sign range t atom e =
      let (form, found) = chosen (is_number bits t) (whole_atom sign range (number_of t)) WrongKind atom e in
      whole-again bits sign range (number_of t) atom found

  pub string-again : (lengths : List Part) (patterns : List Pattern) (t : List ℕ) (atom : Atom) → text_atom table m (YangType-F.Text lengths patterns) t ≡ Ok atom → IsAgain (YangType-F.Text lengths patterns) atom
  string-again lengths patterns t atom e =
      let (long, found) = otherwise (not (holds lengths (pos (length (chars t))))) BadLength _ atom e in
      let same = same_ok _ _ (chosen (list_all (passes t) patterns) (Ok (Text t)) NoMatch atom found).1 in
      subst (IsAgain (YangType-F.Text lengths patterns)) same (e ∙ ap Ok (sym same))

  bool-chosen : (a b : Bool) (atom : Atom) → (if a then Ok (BoolAtom true) else if b then Ok (BoolAtom false) else Err WrongKind) ≡ Ok atom → IsAgain YangType-F.Bool atom
  bool-chosen true b atom e = subst (IsAgain YangType-F.Bool) (same_ok _ _ e) refl
  bool-chosen false true atom e = subst (IsAgain YangType-F.Bool) (same_ok _ _ e) refl
  bool-chosen false false atom e = cc

  pub bool-again : (t : List ℕ) (atom : Atom) → text_atom table m YangType-F.Bool t ≡ Ok atom → IsAgain YangType-F.Bool atom
  bool-again t atom e = bool-chosen (text_eq t (codes "true")) (text_eq t (codes "false")) atom e

  pub empty-again : (t : List ℕ) (atom : Atom) → text_atom table m YangType-F.Empty t ≡ Ok atom → IsAgain YangType-F.Empty atom
  empty-again t atom e = subst (IsAgain YangType-F.Empty) (same_ok _ _ (chosen (length t == 0) (Ok Empty) WrongKind atom e).1) refl

  pub enum-again : (names : List (List ℕ)) (places t : List ℕ) (atom : Atom) → all_differ nat_eq places ≡ true → text_atom table m (YangType-F.Enum names places) t ≡ Ok atom
      → IsAgain (YangType-F.Enum names places) atom
  enum-again names places t atom differ e =
      let (place, called, there) = from_some (λ place. Ok (Enum place)) (number_called names places t) UnknownName atom e in
      let same = same_ok _ _ there in
      let spelled = name_again names places t place differ called in
      subst (IsAgain (YangType-F.Enum names places)) same (ap (text_atom table m (YangType-F.Enum names places)) spelled ∙ e ∙ ap Ok (sym same))

  pub binary-again : (lengths : List Part) (t : List ℕ) (atom : Atom) → IsBytes t → text_atom table m (YangType-F.Bin lengths) t ≡ Ok atom → IsAgain (YangType-F.Bin lengths) atom
  binary-again lengths t atom bytes e =
      let (b, read, found) = from_some (bytes_atom lengths) (bytes_of t) WrongKind atom e in
      let same = same_ok _ _ (chosen (holds lengths (pos (length b))) (Ok (Bin b)) BadLength atom found).1 in
      subst (IsAgain (YangType-F.Bin lengths)) same (ap (text_atom table m (YangType-F.Bin lengths)) (sym (bytes_again t b bytes read)) ∙ e ∙ ap Ok (sym same))
