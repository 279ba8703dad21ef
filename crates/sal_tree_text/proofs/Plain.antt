-- Words of plain bytes are not escaped.
use Rattle.std.proofs.Common.{◌≡◌, ℕ, ◌≤◌, Bool, true, ◌&&◌, List, [], ◌∷◌, ◌++◌, refl, ap, sym, ◌∙◌, append_assoc, arith}
use Rattle.std.proofs.lemmas.Bool.{and_parts}
use Rattle.std.proofs.lemmas.Bool.Decides.{nat_tests}
use Rattle.std.specs.List.{list_all, flat_map}
use Rattle.json.specs.Print.{escape_byte, escape, quoted}
use Rattle.sal_tree_text.specs.Plain.{is_plain}

plain_byte : (c : ℕ) → is_plain c ≡ true → escape_byte c ≡ c ∷ []
unfolding escape_byte
plain_byte c h = grind (arith, nat_tests)

pub plain_words : (s : List ℕ) → list_all is_plain s ≡ true → escape s ≡ s
plain_words [] h = refl
plain_words (c ∷ s) h =
    let (one, rest) = and_parts (is_plain c) (list_all is_plain s) h in
    (λ i. plain_byte c one i ++ plain_words s rest i)

-- words between quotes
pub plain_quoted : (s old one two three : List ℕ) → list_all is_plain s ≡ true → one ≡ old ++ 34 ∷ [] → two ≡ one ++ s → three ≡ two ++ 34 ∷ [] → three ≡ old ++ quoted s
plain_quoted s old one two three h a b c =
    c ∙ ap (λ t. t ++ 34 ∷ []) (b ∙ ap (λ t. t ++ s) a) ∙ append_assoc (old ++ 34 ∷ []) s (34 ∷ []) ∙ append_assoc old (34 ∷ []) (s ++ 34 ∷ [])
    ∙ ap (λ t. old ++ 34 ∷ (t ++ 34 ∷ [])) (sym (plain_words s h))

pub all-append : (s t : List ℕ) → list_all is_plain s ≡ true → list_all is_plain t ≡ true → list_all is_plain (s ++ t) ≡ true
all-append [] t h g = g
all-append (c ∷ s) t h g =
    let (one, rest) = and_parts (is_plain c) (list_all is_plain s) h in
    ap (λ b. b && list_all is_plain (s ++ t)) one ∙ all-append s t rest g
