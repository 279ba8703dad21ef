-- The place after some bytes, one after another.
use Rattle.std.proofs.Common.{◌≡◌, ◌∙◌, ◌<◌, ◌≤◌, ℕ, ◌+◌, Bool, true, false, List, [], ◌∷◌, ◌++◌, cond, fold, get_or, length, take, if◌then◌else◌, nat_eq, ap, arith}
use Rattle.std.proofs.lemmas.List.{length-take, take_more}
use Rattle.std.proofs.lemmas.List.Folds.{fold_along}
use Rattle.std.proofs.lemmas.List.Sums.{fold-append}
use Rattle.sal_lint.specs.declared.places.Place.{Place}
use Rattle.sal_lint.specs.Places.{LinesAreCounted, after, place_of, start}

-- ---- one more byte

pub place_of-more : (text : List ℕ) (i d : ℕ) → i < length text → place_of text (i + 1) ≡ after (place_of text i) (get_or text i d)
place_of-more text i d h = ap (fold after start) (take_more text i d h) ∙ fold-append after start (take i text) (get_or text i d ∷ [])

-- ---- lines and columns are not more than the bytes

abbrev IsWithin : ℕ → Place → Type 0
IsWithin n place = (place.line ≤ n) × (place.column ≤ n)

step : (n : ℕ) (place : Place) (byte : ℕ) → IsWithin n place → IsWithin (n + 1) (after place byte)
step n place byte h = by (nat_eq byte 10)
  where
    by : (b : Bool) → IsWithin (n + 1) (if b then record { line = place.line + 1; column = 1 } else record { line = place.line; column = place.column + 1 })
    by true = (omega (arith, h.0), omega arith)
    by false = (omega (arith, h.0), omega (arith, h.1))

steps : (n : ℕ) (place : Place) (bytes : List ℕ) → IsWithin n place → IsWithin (n + length bytes) (fold after place bytes)
steps n place [] h = (omega (arith, h.0), omega (arith, h.1))
steps n place (byte ∷ bytes) h =
    let more = steps (n + 1) (after place byte) bytes (step n place byte h) in
    (omega (arith, more.0), omega (arith, more.1))

pub place_of-within : (text : List ℕ) (i : ℕ) → i ≤ length text → ((place_of text i).line ≤ i + 1) × ((place_of text i).column ≤ i + 1)
place_of-within text i h =
    let all = steps 1 start (take i text) (omega arith, omega arith) in
    let some : length (take i text) ≡ i = omega (arith, length-take i text) in
    (omega (arith, all.0, some), omega (arith, all.1, some))

-- ---- line feeds are counted

abbrev line_of : Place → ℕ
line_of place = place.line

pub lines_are_counted : LinesAreCounted
lines_are_counted text at = fold_along after (λ n byte. n + cond (nat_eq byte 10) 1 0) (λ place n. place.line ≡ 1 + n) one start 0 (take at text) (omega arith)
  where
    one : (place : Place) (n byte : ℕ) → place.line ≡ 1 + n → (after place byte).line ≡ 1 + (n + cond (nat_eq byte 10) 1 0)
    one place n byte e = by (nat_eq byte 10)
      where
        by : (b : Bool) → line_of (if b then record { line = place.line + 1; column = 1 } else record { line = place.line; column = place.column + 1 }) ≡ 1 + (n + cond b 1 0)
        by true = omega (arith, e)
        by false = omega (arith, e)
