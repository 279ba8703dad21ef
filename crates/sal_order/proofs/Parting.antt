-- Two texts differ first after their longest common front.
use Rattle.std.proofs.Common.{◌≡◌, ℕ, ◌+◌, List, [], ◌∷◌, ◌++◌, Bool, true, false, Option, None, Some, is_some, refl, ap, sym, ◌∙◌, arith, if◌then◌else◌, nat_eq}
use Rattle.std.specs.Prelude.{unwrap_or}
use Rattle.std.proofs.lemmas.Bool.{eq-eqb, eqb-false, eqb-true, ne_eqb, true≢false}
use Rattle.sal_order.specs.Differences.{DifferencesEndLines, Part, PartsBehind, difference, line_ends}

abbrev next : ℕ → ℕ → ℕ
next line x = if nat_eq x 10 then line + 1 else line

abbrev differ_by : ℕ → ℕ → List ℕ → List ℕ → Bool → Option ℕ
differ_by line x xs ys b = if b then difference (next line x) xs ys else Some line

-- the number of the line after a byte
behind : (line x more : ℕ) → next line x + more ≡ line + ((if nat_eq x 10 then 1 else 0) + more)
behind line x more = elim (nat_eq x 10) as (λ b. (if b then line + 1 else line) + more ≡ line + ((if b then 1 else 0) + more)) [ true ↦ omega arith | false ↦ omega arith ]

no-line : {X : Type 0} (n : ℕ) → Some n ≡ None → X
no-line n is = absurd (true≢false (ap is_some is))

no-none : {X : Type 0} (n : ℕ) → None ≡ Some n → X
no-none n is = no-line n (sym is)

-- ---- the same texts

same-by : (line x y : ℕ) (xs ys : List ℕ) (b : Bool) → nat_eq x y ≡ b → ((n : ℕ) → difference n xs ys ≡ None → xs ≡ ys) → differ_by line x xs ys b ≡ None → x ∷ xs ≡ y ∷ ys
same-by line x y xs ys true holds rest is =
    let head : x ≡ y = eqb-true x y holds in
    let tail : xs ≡ ys = rest (next line x) is in
    λ i. head i ∷ tail i
same-by line x y xs ys false fails rest is = no-line line is

same : (line : ℕ) (xs ys : List ℕ) → difference line xs ys ≡ None → xs ≡ ys
same line [] [] is = refl
same line [] (y ∷ ys) is = no-line line is
same line (x ∷ xs) [] is = no-line line is
same line (x ∷ xs) (y ∷ ys) is = same-by line x y xs ys (nat_eq x y) refl (λ n. same n xs ys) is

none : (line : ℕ) (xs : List ℕ) → difference line xs xs ≡ None
none line [] = refl
none line (x ∷ xs) = ap (differ_by line x xs xs) (eq-eqb x x refl) ∙ none (next line x) xs

-- ---- others

-- two texts with a common front, and the line `found` at its end; the texts start at `line`
record Parting (xs : List ℕ) (ys : List ℕ) (line : ℕ) (found : ℕ) : Type 0 where
  front : List ℕ
  rest : List ℕ
  other : List ℕ
  is : xs ≡ front ++ rest
  is_other : ys ≡ front ++ other
  part : Part rest other
  lines : found ≡ line + line_ends front

some-line : (line found : ℕ) → Some line ≡ Some found → found ≡ line + 0
some-line line found is = let e : line ≡ found = ap (λ o. unwrap_or o 0) is in omega (arith, e)

later : (line found x y : ℕ) (xs ys : List ℕ) → x ≡ y → Parting xs ys (next line x) found → Parting (x ∷ xs) (y ∷ ys) line found
later line found x y xs ys head p = record {
  front = x ∷ p.front;
  rest = p.rest;
  other = p.other;
  is = ap (λ (zs : List ℕ). x ∷ zs) p.is;
  is_other = λ i. sym head i ∷ p.is_other i;
  part = p.part;
  lines = p.lines ∙ behind line x (line_ends p.front);
}

parts-by : (line found x y : ℕ) (xs ys : List ℕ) (b : Bool) → nat_eq x y ≡ b → ((n : ℕ) → difference n xs ys ≡ Some found → Parting xs ys n found) → differ_by line x xs ys b ≡ Some found → Parting (x ∷ xs) (y ∷ ys) line found
parts-by line found x y xs ys true holds more is = later line found x y xs ys (eqb-true x y holds) (more (next line x) is)
parts-by line found x y xs ys false fails more is =
    record { front = []; rest = x ∷ xs; other = y ∷ ys; is = refl; is_other = refl; part = eqb-false x y fails; lines = some-line line found is }

parts : (line found : ℕ) (xs ys : List ℕ) → difference line xs ys ≡ Some found → Parting xs ys line found
parts line found [] [] is = no-none found is
parts line found [] (y ∷ ys) is = record { front = []; rest = []; other = y ∷ ys; is = refl; is_other = refl; part = tt; lines = some-line line found is }
parts line found (x ∷ xs) [] is = record { front = []; rest = x ∷ xs; other = []; is = refl; is_other = refl; part = tt; lines = some-line line found is }
parts line found (x ∷ xs) (y ∷ ys) is = parts-by line found x y xs ys (nat_eq x y) refl (λ n. parts n found xs ys) is

parted : (line : ℕ) (rest other : List ℕ) → Part rest other → difference line rest other ≡ Some (line + 0)
parted line [] [] part = absurd part
parted line [] (y ∷ ys) part = λ i. Some (plus-zero line i)
  where
    plus-zero : (n : ℕ) → n ≡ n + 0
    plus-zero n = omega arith
parted line (x ∷ xs) [] part = λ i. Some (plus-zero line i)
  where
    plus-zero : (n : ℕ) → n ≡ n + 0
    plus-zero n = omega arith
parted line (x ∷ xs) (y ∷ ys) part = ap (differ_by line x xs ys) (ne_eqb x y part) ∙ (λ i. Some (plus-zero line i))
  where
    plus-zero : (n : ℕ) → n ≡ n + 0
    plus-zero n = omega arith

differs : (line : ℕ) (front rest other : List ℕ) → Part rest other → difference line (front ++ rest) (front ++ other) ≡ Some (line + line_ends front)
differs line [] rest other part = parted line rest other part
differs line (x ∷ front) rest other part =
    ap (differ_by line x (front ++ rest) (front ++ other)) (eq-eqb x x refl)
    ∙ differs (next line x) front rest other part
    ∙ ap (λ (n : ℕ). Some n) (behind line x (line_ends front))

-- ---- from the first line on

found-at : (text other : List ℕ) (line : ℕ) → difference 0 text other ≡ Some line → PartsBehind text other line
found-at text other line is =
    let p = parts 0 line text other is in
    record { front = p.front; rest = p.rest; rest_of_other = p.other; is = p.is; is_other = p.is_other; part = p.part; lines = p.lines ∙ zero-plus (line_ends p.front) }
  where
    zero-plus : (n : ℕ) → 0 + n ≡ n
    zero-plus n = omega arith

at-found : (text other : List ℕ) (line : ℕ) → PartsBehind text other line → difference 0 text other ≡ Some line
at-found text other line p =
    (λ i. difference 0 (p.is i) (p.is_other i)) ∙ differs 0 p.front p.rest p.rest_of_other p.part ∙ ap (λ (n : ℕ). Some n) (zero-plus (line_ends p.front) ∙ sym p.lines)
  where
    zero-plus : (n : ℕ) → 0 + n ≡ n
    zero-plus n = omega arith

pub differences-end-lines : DifferencesEndLines
differences-end-lines text other =
    (((λ is. same 0 text other is), (λ is. ap (difference 0 text) (sym is) ∙ none 0 text)), λ line. ((λ is. found-at text other line is), (λ p. at-found text other line p)))
