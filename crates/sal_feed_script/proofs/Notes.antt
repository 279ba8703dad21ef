-- Notes that were offered and taken.
use Rattle.std.proofs.Common.{◌≡◌, ℕ, zero, suc, ◌+◌, ◌-◌, ◌*◌, ◌/◌, ◌≤◌, List, [], ◌∷◌, ◌++◌, length, refl, ap, sym, ◌∙◌, arith}
use Rattle.std.proofs.lemmas.List.{length-append, append-nil}
use Rattle.std.proofs.lemmas.List.FromFn.{length-map-range_with_len, map-range_with_len_more, sum_by-map-range_with_len_more}
use Rattle.std.proofs.lemmas.List.Sums.{sum_by-append}
use Rattle.sal_note.specs.declared.call.Note.{Note}
use Rattle.sal_feed_script.specs.Feeding.{sum_below}
use Rattle.sal_feed_script.specs.Halves.{note_of, notes_below, sum_of}

-- one note more is offered
pub one_offered : (n : ℕ) → notes_below (n + 1) ≡ notes_below n ++ note_of n ∷ []
one_offered n = map-range_with_len_more note_of 0 n n (omega (arith))

-- one note more is taken
pub one_summed : (taken : List Note) (note : Note) → sum_of (taken ++ note ∷ []) ≡ sum_of taken + note.note
one_summed taken note =
    let both : sum_of (taken ++ note ∷ []) ≡ sum_of taken + (0 + note.note) = sum_by-append (λ (x : Note). x.note) taken (note ∷ []) in
    omega (arith, both)

pub one_counted : (taken : List Note) (note : Note) → length (taken ++ note ∷ []) ≡ length taken + 1
one_counted taken note = length-append taken (note ∷ [])

-- twice the sum of the numbers below n
double : (n : ℕ) → sum_of (notes_below n) * 2 ≡ n * (n - 1)
double zero = refl
double (suc n) =
    let next : suc n ≡ n + 1 = omega (arith) in
    let more : sum_of (notes_below (n + 1)) ≡ sum_of (notes_below n) + n = sum_by-map-range_with_len_more (λ (x : Note). x.note) note_of 0 n n (omega (arith)) in
    ap (λ k. sum_of (notes_below k) * 2) next ∙ ap (λ k. k * 2) more ∙ by n (sum_of (notes_below n)) (double n)
  where
    by : (n s : ℕ) → s * 2 ≡ n * (n - 1) → (s + n) * 2 ≡ suc n * (suc n - 1)
    by zero s e = omega (arith, e)
    by (suc m) s e =
        let up : suc (suc m) - 1 ≡ suc m = omega (arith) in
        let low : suc m - 1 ≡ m = omega (arith) in
        let before : s * 2 ≡ suc m * m = e ∙ ap (λ k. suc m * k) low in
        let after : (s + suc m) * 2 ≡ suc (suc m) * suc m = omega (arith, before) in
        after ∙ ap (λ k. suc (suc m) * k) (sym up)

pub summed : (n : ℕ) → sum_of (notes_below n) ≡ sum_below n
summed n = by (sum_of (notes_below n)) (n * (n - 1)) (double n)
  where
    by : (s x : ℕ) → s * 2 ≡ x → s ≡ x / 2
    by s x e = omega (arith, e)

-- as many notes are taken as there are, so these are all that were offered
pub all_taken : (notes next : ℕ) (taken left : List Note) → notes_below next ≡ taken ++ left → next ≤ notes → length taken ≡ notes → sum_of taken ≡ sum_below notes
all_taken notes next taken left all within count =
    let long : next ≡ length taken + length left = sym (length-map-range_with_len note_of 0 next) ∙ ap length all ∙ length-append taken left in
    let none : left ≡ [] = nothing left (omega (arith, long, within, count)) in
    let whole : notes_below next ≡ taken = all ∙ ap (λ (xs : List Note). taken ++ xs) none ∙ append-nil taken in
    let last : next ≡ notes = omega (arith, long, within, count) in
    ap sum_of (sym whole) ∙ summed next ∙ ap sum_below last
  where
    nothing : (xs : List Note) → length xs ≤ 0 → xs ≡ []
    nothing [] few = refl
    nothing (x ∷ xs) few = absurd (omega (arith, few))
