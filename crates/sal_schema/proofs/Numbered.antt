-- Lists with the numbers of their elements.
use Rattle.std.proofs.Common.{◌≡◌, ℕ, zero, suc, ◌+◌, ◌<◌, ◌≤◌, Bool, IsTrue, List, [], ◌∷◌, ◌++◌, length, get_or, drop, sym, ap, ◌∙◌, arith}
use Rattle.std.proofs.lemmas.List.{append_assoc, append-nil, drop_more, drop_all}
use Rattle.std.specs.List.{list_all}
use Rattle.sal_schema.specs.Table.{each_from, all_from}
use Rattle.sal_schema.proofs.Conjuncts.{and_first, and_second}

module _ {X Y : Type 0} (f : ℕ → X → List Y) where
  -- what is done and what is left, one element on
  pub each_from_more : (done : List Y) (xs : List X) (i n : ℕ) (d : X) → i < length xs
      → done ++ each_from f n (drop i xs) ≡ (done ++ f n (get_or xs i d)) ++ each_from f (n + 1) (drop (i + 1) xs)
  each_from_more done xs i n d inside = ap (λ ys. done ++ each_from f n ys) (drop_more xs i d inside) ∙ sym (append_assoc done (f n (get_or xs i d)) (each_from f (n + 1) (drop (i + 1) xs)))

  -- at the end nothing is left
  pub each_from_all : (done : List Y) (xs : List X) (i n : ℕ) → length xs ≤ i → done ++ each_from f n (drop i xs) ≡ done
  each_from_all done xs i n end = ap (λ ys. done ++ each_from f n ys) (drop_all i xs end) ∙ append-nil done

-- what holds of each with its number holds of one
pub all_from-at : {X : Type 0} (test : ℕ → X → Bool) (i : ℕ) (xs : List X) (k n : ℕ) (d : X) → IsTrue (all_from test i xs) → k < length xs → n ≡ i + k
    → IsTrue (test n (get_or xs k d))
all_from-at test i [] k n d h inside same = absurd (omega arith)
all_from-at test i (x ∷ xs) zero n d h inside same =
    let e : n ≡ i = omega arith in
    rw e (and_first (test i x) (all_from test (i + 1) xs) h)
all_from-at test i (x ∷ xs) (suc k) n d h inside same =
    all_from-at test (i + 1) xs k n d (and_second (test i x) (all_from test (i + 1) xs) h) (omega arith) (omega arith)

pub list_all-at : {X : Type 0} (test : X → Bool) (xs : List X) (k : ℕ) (d : X) → IsTrue (list_all test xs) → k < length xs → IsTrue (test (get_or xs k d))
list_all-at test [] k d h inside = absurd (omega arith)
list_all-at test (x ∷ xs) zero d h inside = and_first (test x) (list_all test xs) h
list_all-at test (x ∷ xs) (suc k) d h inside = list_all-at test xs k d (and_second (test x) (list_all test xs) h) (omega arith)
