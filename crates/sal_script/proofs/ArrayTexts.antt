-- An array that was written item by item is the text of the array.
use Rattle.std.proofs.Common.{◌≡◌, ℕ, ◌-◌, ◌≤◌, List, [], ◌∷◌, ◌++◌, length, get_or, drop, take, append_assoc, refl, ap, sym, ◌∙◌, arith}
use Rattle.std.proofs.lemmas.List.{drop_more, length-drop, take_all}
use Rattle.std.specs.Prelude.{true, map, flat_map}
use Rattle.serde_json.specs.Data.{Data}
use Rattle.serde_json.specs.View.{items_of}
use Rattle.serde_json.specs.Written.{compact_text, items_text}
use Rattle.sal_script.specs.BatchData.{list_data}

module _ {A : Type 0} (f : A → Data) where
  -- an item after the first
  abbrev pub after_comma : A → List ℕ
  after_comma x = 44 ∷ compact_text (f x)

  more_items : (xs : List A) → items_text true (items_of (map f xs)) ≡ flat_map after_comma xs ++ 93 ∷ []
  more_items [] = refl
  more_items (x ∷ xs) = ap (λ (rest : List ℕ). after_comma x ++ rest) (more_items xs) ∙ sym (append_assoc (after_comma x) (flat_map after_comma xs) (93 ∷ []))

  array_text : (x : A) (xs : List A) → compact_text (list_data (map f (x ∷ xs))) ≡ 91 ∷ (compact_text (f x) ++ (flat_map after_comma xs ++ 93 ∷ []))
  array_text x xs = ap (λ (rest : List ℕ). 91 ∷ (compact_text (f x) ++ rest)) (more_items xs)

  -- the first item was written, then those after it
  pub array_written : (xs : List A) (x : A) (old opened one more : List ℕ) → 1 ≤ length xs → x ≡ get_or xs 0 x → opened ≡ old ++ 91 ∷ [] → one ≡ opened ++ compact_text (f x) → more ≡ one ++ flat_map after_comma (take (length xs - 1) (drop 1 xs))
      → more ++ 93 ∷ [] ≡ old ++ compact_text (list_data (map f xs))
  array_written xs x old opened one more long first opens writes goes =
      let rest : List A = drop 1 xs in
      let split : xs ≡ x ∷ rest = drop_more xs 0 x (omega (arith, long)) ∙ ap (λ (y : A). y ∷ rest) (sym first) in
      let commas : List ℕ = flat_map after_comma rest in
      let whole : take (length xs - 1) rest ≡ rest = take_all (length xs - 1) rest (omega (arith, length-drop 1 xs)) in
      let this : List ℕ = compact_text (f x) in
      ap (λ (t : List ℕ). t ++ 93 ∷ []) (goes ∙ ap (λ (ys : List A). one ++ flat_map after_comma ys) whole ∙ ap (λ (t : List ℕ). t ++ commas) (writes ∙ ap (λ (t : List ℕ). t ++ this) opens))
      ∙ append_assoc ((old ++ 91 ∷ []) ++ this) commas (93 ∷ [])
      ∙ append_assoc (old ++ 91 ∷ []) this (commas ++ 93 ∷ [])
      ∙ append_assoc old (91 ∷ []) (this ++ (commas ++ 93 ∷ []))
      ∙ ap (λ (t : List ℕ). old ++ t) (sym (array_text x rest) ∙ ap (λ (ys : List A). compact_text (list_data (map f ys))) (sym split))
