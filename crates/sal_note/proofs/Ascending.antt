-- Clients in ascending order.
use Rattle.std.proofs.Common.{◌≡◌, ℕ, suc, ◌+◌, ◌<◌, ◌≤◌, Bool, true, false, not, ◌&&◌, ◌||◌, List, [], ◌∷◌, Some, None, length, get_or, refl, ap, sym, ◌∙◌, subst, cond, arith, if◌then◌else◌, nat_eq, nat_le, nat_lt}
use Rattle.std.proofs.lemmas.Bool.{and_parts}
use Rattle.std.specs.List.{insert, list_any, position, position_or_len}
use Rattle.std.specs.Option.{unwrap_or}
use Rattle.std.proofs.lemmas.Bool.Decides.{nat_tests}
use Rattle.std.proofs.lemmas.List.Sums.{prefix_len-le-length}
use Rattle.sal_note.specs.Boxes.{AreAbove, Ascend}
use Rattle.sal_note.specs.Clients.{first_from, stands_at}
use Rattle.sal_note.specs.Queues.{with_client}

-- who is not above a number is none of those above it
pub absent : (c low : ℕ) (ds : List ℕ) → c ≤ low → AreAbove low ds → list_any (nat_eq c) ds ≡ false
absent c low [] at above = refl
absent c low (d ∷ ds) at above =
    let other : nat_eq c d ≡ false = let h : low < d = above.0 in grind (arith, nat_tests) in
    ap (λ b. b || list_any (nat_eq c) ds) other ∙ absent c d ds (let h : low < d = above.0 in omega arith) above.1

above-with : (low c : ℕ) (ds : List ℕ) → low < c → AreAbove low ds → AreAbove low (with_client c ds)
above-with low c [] more above = (more, tt)
above-with low c (d ∷ ds) more above =
    elim (nat_lt c d) as (λ b. nat_lt c d ≡ b → AreAbove low (if b then c ∷ d ∷ ds else (if nat_eq c d then d ∷ ds else d ∷ with_client c ds))) [
      | true ↦ λ e. let less : c < d = grind (arith, nat_tests) in (more, (less, above.1))
      | false ↦ λ e. elim (nat_eq c d) as (λ b. nat_eq c d ≡ b → AreAbove low (if b then d ∷ ds else d ∷ with_client c ds)) [
        | true ↦ λ _. above
        | false ↦ λ f. let less : d < c = grind (arith, nat_tests) in (above.0, above-with d c ds less above.1)
      ] refl
    ] refl

pub ascend-with : (c : ℕ) (ds : List ℕ) → Ascend ds → Ascend (with_client c ds)
ascend-with c [] above = tt
ascend-with c (d ∷ ds) above =
    elim (nat_lt c d) as (λ b. nat_lt c d ≡ b → Ascend (if b then c ∷ d ∷ ds else (if nat_eq c d then d ∷ ds else d ∷ with_client c ds))) [
      | true ↦ λ e. let less : c < d = grind (arith, nat_tests) in (less, above)
      | false ↦ λ e. elim (nat_eq c d) as (λ b. nat_eq c d ≡ b → Ascend (if b then d ∷ ds else d ∷ with_client c ds)) [
        | true ↦ λ _. above
        | false ↦ λ f. let less : d < c = grind (arith, nat_tests) in above-with d c ds less above
      ] refl
    ] refl

pub length-with : (c : ℕ) (ds : List ℕ) → length (with_client c ds) ≤ length ds + 1
length-with c [] = omega arith
length-with c (d ∷ ds) =
    elim (nat_lt c d) as (λ b. length (if b then c ∷ d ∷ ds else (if nat_eq c d then d ∷ ds else d ∷ with_client c ds)) ≤ length (d ∷ ds) + 1) [
      | true ↦ omega arith
      | false ↦ elim (nat_eq c d) as (λ b. length (if b then d ∷ ds else d ∷ with_client c ds) ≤ length (d ∷ ds) + 1) [ true ↦ omega arith | false ↦ let h = length-with c ds in omega arith ]
    ]

-- who is among them, once one more is
pub among-with : (q c : ℕ) (ds : List ℕ) → list_any (nat_eq q) (with_client c ds) ≡ true → (list_any (nat_eq q) ds || nat_eq c q) ≡ true
among-with q c [] e = grind (arith, nat_tests, e)
among-with q c (d ∷ ds) e =
    elim (nat_lt c d) as (λ b. list_any (nat_eq q) (if b then c ∷ d ∷ ds else (if nat_eq c d then d ∷ ds else d ∷ with_client c ds)) ≡ true → ((nat_eq q d || list_any (nat_eq q) ds) || nat_eq c q) ≡ true) [
      | true ↦ λ h. front (nat_eq q c) (nat_eq q d || list_any (nat_eq q) ds) (nat_eq c q) (turned q c) h
      | false ↦ elim (nat_eq c d) as (λ b. list_any (nat_eq q) (if b then d ∷ ds else d ∷ with_client c ds) ≡ true → ((nat_eq q d || list_any (nat_eq q) ds) || nat_eq c q) ≡ true) [
        | true ↦ λ h. ap (λ b. b || nat_eq c q) h
        | false ↦ λ h. rest (nat_eq q d) (list_any (nat_eq q) ds) (list_any (nat_eq q) (with_client c ds)) (nat_eq c q) (among-with q c ds) h
      ]
    ] e
  where
    turned : (q c : ℕ) → nat_eq q c ≡ nat_eq c q
    turned q c = grind (arith, nat_tests)

    front : (a b z : Bool) → a ≡ z → (a || b) ≡ true → (b || z) ≡ true
    front true true z e h = refl
    front true false z e h = sym e
    front false true z e h = refl
    front false false z e h = cc

    rest : (a b w z : Bool) → (w ≡ true → (b || z) ≡ true) → (a || w) ≡ true → ((a || b) || z) ≡ true
    rest true b w z f h = refl
    rest false b w z f h = f h

-- ---- the place of a client

by-prefix : (c : ℕ) (ds : List ℕ) → position_or_len (λ other. nat_le c other) ds ≡ first_from c ds
by-prefix c [] = refl
by-prefix c (d ∷ ds) = elim (nat_le c d) as (λ b. cond (not b) (1 + position_or_len (λ other. nat_le c other) ds) 0 ≡ (if b then 0 else suc (first_from c ds))) [
  | true ↦ refl
  | false ↦ let one : 1 + position_or_len (λ other. nat_le c other) ds ≡ suc (position_or_len (λ other. nat_le c other) ds) = omega arith in one ∙ ap suc (by-prefix c ds)
]

pub within-place : (c : ℕ) (ds : List ℕ) → first_from c ds ≤ length ds
within-place c ds = let h : position_or_len (λ other. nat_le c other) ds ≤ length ds = prefix_len-le-length (λ x. not (nat_le c x)) ds in subst (λ (n : ℕ). n ≤ length ds) (by-prefix c ds) h

pub found-place : (c : ℕ) (ds : List ℕ) → unwrap_or (position (λ other. nat_le c other) ds) (length ds) ≡ first_from c ds
found-place c ds =
    ap (λ n. unwrap_or (cond (nat_lt n (length ds)) (Some n) None) (length ds)) (by-prefix c ds)
    ∙ elim (nat_lt (first_from c ds) (length ds)) as (λ b. nat_lt (first_from c ds) (length ds) ≡ b → unwrap_or (cond b (Some (first_from c ds)) None) (length ds) ≡ first_from c ds) [
      | true ↦ λ _. refl
      | false ↦ λ e. let h = within-place c ds in let same : length ds ≡ first_from c ds = grind (arith, nat_tests) in same
    ] refl

later : (c d : ℕ) (ds : List ℕ) → stands_at (suc (first_from c ds)) c (d ∷ ds) ≡ stands_at (first_from c ds) c ds
later c d ds = let same : nat_lt (suc (first_from c ds)) (length (d ∷ ds)) ≡ nat_lt (first_from c ds) (length ds) = grind (arith, nat_tests) in ap (λ b. b && nat_eq (get_or ds (first_from c ds) 0) c) same

pub with-same : (c : ℕ) (ds : List ℕ) → stands_at (first_from c ds) c ds ≡ true → with_client c ds ≡ ds
with-same c [] here = cc
with-same c (d ∷ ds) here =
    elim (nat_le c d) as (λ b. nat_le c d ≡ b → stands_at (if b then 0 else suc (first_from c ds)) c (d ∷ ds) ≡ true → with_client c (d ∷ ds) ≡ d ∷ ds) [
      | true ↦ λ e same. let mine : nat_eq d c ≡ true = (and_parts (nat_lt 0 (length (d ∷ ds))) (nat_eq d c) same).1 in let no : nat_lt c d ≡ false = grind (arith, nat_tests) in let yes : nat_eq c d ≡ true = grind (arith, nat_tests) in
          ap (λ b. if b then c ∷ d ∷ ds else (if nat_eq c d then d ∷ ds else d ∷ with_client c ds)) no ∙ ap (λ b. if b then d ∷ ds else d ∷ with_client c ds) yes
      | false ↦ λ e same. let no : nat_lt c d ≡ false = grind (arith, nat_tests) in let un : nat_eq c d ≡ false = grind (arith, nat_tests) in
          ap (λ b. if b then c ∷ d ∷ ds else (if nat_eq c d then d ∷ ds else d ∷ with_client c ds)) no ∙ ap (λ b. if b then d ∷ ds else d ∷ with_client c ds) un ∙ ap (λ l. d ∷ l) (with-same c ds (sym (later c d ds) ∙ same))
    ] refl here

pub with-insert : (c : ℕ) (ds : List ℕ) → stands_at (first_from c ds) c ds ≡ false → insert ds (first_from c ds) c ≡ with_client c ds
with-insert c [] differs = refl
with-insert c (d ∷ ds) differs =
    elim (nat_le c d) as (λ b. nat_le c d ≡ b → stands_at (if b then 0 else suc (first_from c ds)) c (d ∷ ds) ≡ false → insert (d ∷ ds) (if b then 0 else suc (first_from c ds)) c ≡ with_client c (d ∷ ds)) [
      | true ↦ λ e other. let low : nat_lt 0 (length (d ∷ ds)) ≡ true = grind (arith, nat_tests) in let apart : nat_eq d c ≡ false = sym (ap (λ b. b && nat_eq d c) low) ∙ other in let yes : nat_lt c d ≡ true = grind (arith, nat_tests) in
          sym (ap (λ b. if b then c ∷ d ∷ ds else (if nat_eq c d then d ∷ ds else d ∷ with_client c ds)) yes)
      | false ↦ λ e other. let no : nat_lt c d ≡ false = grind (arith, nat_tests) in let un : nat_eq c d ≡ false = grind (arith, nat_tests) in
          ap (λ l. d ∷ l) (with-insert c ds (sym (later c d ds) ∙ other)) ∙ sym (ap (λ b. if b then c ∷ d ∷ ds else (if nat_eq c d then d ∷ ds else d ∷ with_client c ds)) no ∙ ap (λ b. if b then d ∷ ds else d ∷ with_client c ds) un)
    ] refl differs
