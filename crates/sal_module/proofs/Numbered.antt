-- Lists whose elements are numbered from 0, from one to the next.
use Rattle.std.proofs.Common.{◌≡◌, ℕ, ◌+◌, ◌<◌, List, [], ◌∷◌, ◌++◌, length, take, get_or, Option, sym, ap, ◌∙◌, arith, append_assoc, append-nil}
use Rattle.std.specs.List.{flat_map, enumerate_from}
use Rattle.std.proofs.lemmas.List.Sums.{fold-append}
use Rattle.sal_module.specs.declared.fault.Found.{Found}
use Rattle.sal_module.specs.Faults.{least, better}
use Rattle.std.proofs.lemmas.List.{take_more, length-take}

-- what f gives of each element and its number, from n on
abbrev pub numbered : {X A : Type 0} → (ℕ → X → List A) → ℕ → List X → List A
numbered f n xs = flat_map (λ (i, x). f i x) (enumerate_from n xs)

numbered-last : {X A : Type 0} (f : ℕ → X → List A) (n : ℕ) (xs : List X) (x : X) → numbered f n (xs ++ x ∷ []) ≡ numbered f n xs ++ f (n + length xs) x
numbered-last f n [] x = let here : n + 0 ≡ n = omega arith in rw here (append-nil (f n x))
numbered-last f n (y ∷ ys) x =
    let there : n + 1 + length ys ≡ n + length (y ∷ ys) = omega arith in
    ap (λ rest. f n y ++ rest) (numbered-last f (n + 1) ys x) ∙ rw there (sym (append_assoc (f n y) (numbered f (n + 1) ys) (f (n + length (y ∷ ys)) x)))

pub numbered-take : {X A : Type 0} (f : ℕ → X → List A) (xs : List X) (i : ℕ) (d : X) → i < length xs → numbered f 0 (take (i + 1) xs) ≡ numbered f 0 (take i xs) ++ f i (get_or xs i d)
numbered-take f xs i d h =
    let more = take_more xs i d h in
    let here : 0 + length (take i xs) ≡ i = omega (arith, length-take i xs) in
    ap (numbered f 0) more ∙ numbered-last f 0 (take i xs) (get_or xs i d) ∙ ap (λ k. numbered f 0 (take i xs) ++ f k (get_or xs i d)) here

-- the least fault of one more element
pub least_more : {X : Type 0} (f : ℕ → X → List Found) (xs : List X) (i : ℕ) (x : X) (start best next : Option Found)
    → i < length xs → x ≡ get_or xs i x → best ≡ least start (numbered f 0 (take i xs)) → next ≡ least best (f i x)
    → next ≡ least start (numbered f 0 (take (i + 1) xs))
least_more f xs i x start best next h is so_far step =
    let more = numbered-take f xs i x h in
    let here = ap (λ y. numbered f 0 (take i xs) ++ f i y) (sym is) in
    step ∙ ap (λ b. least b (f i x)) so_far
    ∙ sym (fold-append better start (numbered f 0 (take i xs)) (f i x))
    ∙ ap (least start) (sym (more ∙ here))
