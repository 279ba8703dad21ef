-- JSON values and the data that they denote.
use Rattle.std.proofs.Common.{◌≡◌, ℕ, Bool, true, ◌||◌, ◌&&◌, ◌==◌, List, [], ◌∷◌, length, map, Option, Some, Bor, eq-eqb, refl, ap, sym, ◌∙◌}
use Rattle.std.proofs.lemmas.Str.{utf8_valid_len-IsUtf8}
use Rattle.std.specs.List.{list_any}
use Rattle.std.specs.Str.{IsUtf8}
use Rattle.std.specs.Str.Lossy.{utf8_valid_len}
use Rattle.serde_json.specs.Data.{Data, Members, member}
use Rattle.serde_json.specs.Find.{as_array}
use Rattle.serde_json.specs.Read.{read}
use Rattle.serde_json.specs.View.{items_of}
use Rattle.sal_script.specs.Json.{all_named, data_of, list_of, list_of_items, text_eq}

list_of_items-items_of : (ds : List Data) → list_of_items (items_of ds) ≡ ds
list_of_items-items_of [] = refl
list_of_items-items_of (d ∷ ds) = ap (λ rest. d ∷ rest) (list_of_items-items_of ds)

-- an array's values are its list
pub list_of-items_of : (d : Data) (ds : List Data) → Some (items_of ds) ≡ as_array d → Some ds ≡ list_of d
list_of-items_of d ds is = rw (← is) (ap Some (sym (list_of_items-items_of ds)))

-- bytes that are text denote what the text reads as
pub data_of-text : (bytes text : List ℕ) (found : Option Data) → text ≡ bytes → IsUtf8 bytes → read text ≡ found → data_of bytes ≡ found
data_of-text bytes text found same utf8 is =
    let valid : (utf8_valid_len bytes == length bytes) ≡ true = eq-eqb _ _ (utf8_valid_len-IsUtf8 bytes utf8) in
    rw valid (ap read (sym same) ∙ is)

-- a name is among those that references show
pub list_any-map : (name : List ℕ) (names : List (Bor (List ℕ))) → list_any (λ listed. text_eq name listed.now) names ≡ list_any (text_eq name) (map (λ listed. listed.now) names)
list_any-map name [] = refl
list_any-map name (x ∷ names) = ap (λ rest. text_eq name x.now || rest) (list_any-map name names)

-- one member more is named, or is not
pub all_named-member : (names : List (Bor (List ℕ))) (text name : List ℕ) (d : Data) (ms : Members) (r : Bool) → text ≡ name → r ≡ list_any (λ listed. text_eq text listed.now) names
    → all_named (map (λ listed. listed.now) names) (member name d ms) ≡ (r && all_named (map (λ listed. listed.now) names) ms)
all_named-member names text name d ms r same is =
    let among : list_any (text_eq name) (map (λ listed. listed.now) names) ≡ r = ap (λ t. list_any (text_eq t) (map (λ (listed : Bor (List ℕ)). listed.now) names)) (sym same) ∙ sym (list_any-map text names) ∙ sym is in
    rw among refl
