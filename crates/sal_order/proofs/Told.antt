-- A text has an order exactly if it starts with the line of this order.
use Rattle.std.proofs.Common.{◌≡◌, ℕ, ◌<◌, ◌^◌, List, [], ◌∷◌, ◌++◌, drop, length, Bool, true, false, Option, None, Some, is_some, refl, ap, sym, ◌∙◌, subst, if◌then◌else◌, nat_eq}
use Rattle.std.specs.List.{All, starts_with}
use Rattle.std.specs.Prelude.{unwrap_or}
use Rattle.std.proofs.lemmas.Bool.{true≢false}
use Rattle.std.proofs.lemmas.Bool.Decides.{Decides-eqb}
use Rattle.std.proofs.lemmas.Slice.Eq.{starts_is}
use Rattle.sal_order.specs.FirstLines.{OrdersAreTold, Tells, line_of, numbers_in, told_order}
use Rattle.sal_order.proofs.FirstRead.{line-below, told-read}

-- whether the text begins with the line of the numbers in it
abbrev begins : List ℕ → Bool
begins text = starts_with nat_eq text (line_of (numbers_in text))

abbrev told_by : List ℕ → Bool → Option (List ℕ)
told_by text b = if b then Some (numbers_in text) else None

-- the result for a line that was written
pub told-as : (text order line : List ℕ) (found : Bool) → order ≡ numbers_in text → line ≡ line_of order → found ≡ starts_with nat_eq text line
    → told_order text ≡ (if found then Some order else None)
told-as text order line found read written tested =
    let same : begins text ≡ found = sym (ap (starts_with nat_eq text) (written ∙ ap line_of read)) ∙ sym tested in
    ap (told_by text) same ∙ sym (ap (λ (xs : List ℕ). if found then Some xs else None) read)

front : (text : List ℕ) → (begins text ≡ true → text ≡ line_of (numbers_in text) ++ drop (length (line_of (numbers_in text))) text) × ((rest : List ℕ) → text ≡ line_of (numbers_in text) ++ rest → begins text ≡ true)
front text = starts_is Decides-eqb text (line_of (numbers_in text)) (begins text) refl

from-told : (text order : List ℕ) (b : Bool) → begins text ≡ b → told_by text b ≡ Some order → Tells text order × All (λ n. n < 2 ^ 32) order
from-told text order true holds is =
    let same : numbers_in text ≡ order = ap (λ o. unwrap_or o []) is in
    subst (λ (xs : List ℕ). Tells text xs × All (λ n. n < 2 ^ 32) xs) same ((drop (length (line_of (numbers_in text))) text, (front text).0 holds), line-below (drop 5 text))
from-told text order false fails is = absurd (true≢false (sym (ap is_some is)))

to-told : (text order : List ℕ) → Tells text order → All (λ n. n < 2 ^ 32) order → told_order text ≡ Some order
to-told text order (rest, is) all =
    let read : numbers_in text ≡ order = told-read text order all (rest, is) in
    let holds : begins text ≡ true = (front text).1 rest (is ∙ ap (λ (xs : List ℕ). line_of xs ++ rest) (sym read)) in
    ap (told_by text) holds ∙ ap (λ (xs : List ℕ). Some xs) read

pub orders-are-told : OrdersAreTold
orders-are-told text order = ((λ is. from-told text order (begins text) refl is), (λ told. to-told text order told.0 told.1))
