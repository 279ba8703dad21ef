-- What holds of what is found in JSON: its parts are JSON.
use Rattle.std.proofs.Common.{◌≡◌, ℕ, zero, suc, ◌≤◌, Bool, true, false, ◌==◌, List, [], ◌∷◌, length, take, Option, Some, None, option_map, option_and_then, if◌then◌else◌, nat_le, eqb-true, refl, subst, arith}
use Rattle.std.proofs.lemmas.List.{take_all}
use Rattle.std.proofs.lemmas.Str.{IsUtf8-from_is_utf8, IsUtf8-nil}
use Rattle.std.specs.Prelude.{⊤}
use Rattle.std.specs.Str.{IsUtf8, is_utf8}
use Rattle.std.specs.Str.Lossy.{utf8_valid_len, valid_len_up_to}
use Rattle.serde_json.specs.Data.{Data, null, boolean, number, string, array, object, Items, no_items, item, Members}
use Rattle.serde_json.specs.Find.{as_object, get_member}
use Rattle.serde_json.specs.Read.{read}
use Rattle.sal_json_laws.specs.Json.{IsJson, AreJson, HasJson}
use Rattle.sal_json_laws.proofs.Given.{texts_read_as_json}
use Rattle.sal_json_laws.proofs.Parts.{Found, member_json}
use Rattle.sal_script.proofs.Given.{Given}
use Rattle.sal_script.specs.Json.{list_of, list_of_items, all_named, data_of}
use Rattle.sal_script.specs.Script.{or_bad, at_most, members_of, list_by, opening_by}

-- ---- what holds of what is there

abbrev pub If : {A : Type 0} → (A → Type 0) → Option A → Type 0
If P None = ⊤
If P (Some x) = P x

abbrev pub Any : {A : Type 0} → A → Type 0
Any x = ⊤

pub if_any : {A : Type 0} (o : Option A) → If Any o
if_any None = tt
if_any (Some x) = tt

pub if_then : {A B : Type 0} (P : A → Type 0) (Q : B → Type 0) (f : A → Option B) (o : Option A) → If P o → ((x : A) → P x → If Q (f x)) → If Q (option_and_then f o)
if_then P Q f None is more = tt
if_then P Q f (Some x) is more = more x is

pub if_map : {A B : Type 0} (Q : B → Type 0) (f : A → B) (o : Option A) → ((x : A) → Q (f x)) → If Q (option_map f o)
if_map Q f None more = tt
if_map Q f (Some x) more = more x

pub if_either : {A : Type 0} (P : A → Type 0) (b : Bool) (r s : Option A) → If P r → If P s → If P (if b then r else s)
if_either P true r s first second = first
if_either P false r s first second = second

pub or_else_bad : {A : Type 0} (P : A → Type 0) (place : List ℕ) (o : Option A) → If P o → Given P (or_bad place o)
or_else_bad P place None is = tt
or_else_bad P place (Some x) is = is

-- ---- bytes

pub valid_le : (bs : List ℕ) (n : ℕ) → valid_len_up_to bs n ≤ n
valid_le bs zero = omega arith
valid_le bs (suc n) = elim (is_utf8 (take (suc n) bs)) as (λ b. (if b then suc n else valid_len_up_to bs n) ≤ suc n) [ true ↦ omega arith | false ↦ omega (arith, valid_le bs n) ]

pub valid_whole : (bs : List ℕ) (n : ℕ) → valid_len_up_to bs (suc n) ≡ suc n → IsUtf8 (take (suc n) bs)
valid_whole bs n e = elim (is_utf8 (take (suc n) bs)) as (λ b. is_utf8 (take (suc n) bs) ≡ b → (if b then suc n else valid_len_up_to bs n) ≡ suc n → IsUtf8 (take (suc n) bs)) [
  | true ↦ λ is e1. IsUtf8-from_is_utf8 (take (suc n) bs) is
  | false ↦ λ is e1. absurd (omega (arith, valid_le bs n, e1))
] refl e

valid-IsUtf8 : (bs : List ℕ) → utf8_valid_len bs ≡ length bs → IsUtf8 bs
unfolding utf8_valid_len
valid-IsUtf8 [] e = IsUtf8-nil
valid-IsUtf8 (x ∷ bs) e = subst IsUtf8 (take_all (length (x ∷ bs)) (x ∷ bs) (omega arith)) (valid_whole (x ∷ bs) (length bs) e)

pub read_json : (bytes : List ℕ) → IsUtf8 bytes → (o : Option Data) → read bytes ≡ o → If IsJson o
read_json bytes utf8 None e = tt
read_json bytes utf8 (Some d) e = texts_read_as_json bytes utf8 d e

pub data_json : (bytes : List ℕ) → If IsJson (data_of bytes)
data_json bytes = elim (utf8_valid_len bytes == length bytes) as (λ b. (utf8_valid_len bytes == length bytes) ≡ b → If IsJson (if b then read bytes else None)) [
  | true ↦ λ is. read_json bytes (valid-IsUtf8 bytes (eqb-true (utf8_valid_len bytes) (length bytes) is)) (read bytes) refl
  | false ↦ λ is. tt
] refl

-- ---- parts of values

abbrev pub AllJson : List Data → Type 0
AllJson [] = ⊤
AllJson (d ∷ ds) = IsJson d × AllJson ds

abbrev pub AllPrograms : List (List Data) → Type 0
AllPrograms [] = ⊤
AllPrograms (p ∷ ps) = AllJson p × AllPrograms ps

pub items_json : (items : Items) → AreJson items → AllJson (list_of_items items)
items_json no_items is = tt
items_json (item d items) is = (is.0, items_json items is.1)

pub list_json : (d : Data) → IsJson d → If AllJson (list_of d)
list_json null is = tt
list_json (boolean b) is = tt
list_json (number x) is = tt
list_json (string t) is = tt
list_json (array items) is = items_json items is
list_json (object ms) is = tt

pub object_json : (d : Data) → IsJson d → If HasJson (as_object d)
object_json null is = tt
object_json (boolean b) is = tt
object_json (number x) is = tt
object_json (string t) is = tt
object_json (array items) is = tt
object_json (object ms) is = is

pub members_json : (named : List (List ℕ)) (d : Data) → IsJson d → If HasJson (members_of named d)
members_json named d is = if_then HasJson HasJson (λ ms. if all_named named ms then Some ms else None) (as_object d) (object_json d is) (λ ms x. if_either HasJson (all_named named ms) (Some ms) None x tt)

pub found_json : (o : Option Data) → Found o → If IsJson o
found_json None is = tt
found_json (Some d) is = is

pub get_json : (name : List ℕ) (ms : Members) → HasJson ms → If IsJson (get_member name ms)
get_json name ms is = found_json (get_member name ms) (member_json name ms is)

pub list_by_json : (o : Option Data) → If IsJson o → If AllJson (list_by o)
list_by_json None is = tt
list_by_json (Some d) is = list_json d is

pub opening_by_json : (o : Option Data) → If IsJson o → If IsJson (opening_by o)
opening_by_json None is = tt
opening_by_json (Some d) is = if_map IsJson (λ ms. d) (as_object d) (λ ms. is)

pub at_most_json : {A : Type 0} (P : List A → Type 0) (limit : ℕ) (xs : List A) → P xs → If P (at_most limit xs)
at_most_json P limit xs is = if_either P (nat_le (length xs) limit) (Some xs) None is tt
