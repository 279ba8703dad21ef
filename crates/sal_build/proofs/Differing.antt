-- Lists of pairwise different elements.
use Rattle.std.proofs.Common.{◌≡◌, ℕ, zero, suc, ◌+◌, ◌<◌, ◌≤◌, Bool, true, false, not, ◌&&◌, nat_eq, IsTrue, List, [], ◌∷◌, ◌++◌, map, length, Some, refl, sym, ap, ◌∙◌, subst, inl, inr, arith}
use Rattle.std.specs.Prelude.{◌||◌, find}
use Rattle.std.specs.List.{list_all, list_any, enumerate_from, position_from, slice_index}
use Rattle.std.proofs.lemmas.Bool.{cases_Bool}
use Rattle.std.proofs.lemmas.Bool.Decides.{nat_tests}
use Rattle.sal_module.specs.Keywords.{same}
use Rattle.sal_schema.specs.Valid.{all_differ}
use Rattle.sal_schema.proofs.Conjuncts.{and_first, and_second, or_first, or_second}
use Rattle.sal_module.proofs.Initials.{same-text}
use Rattle.sal_build.proofs.Distinct.{true-is, false-is}
use Rattle.sal_build.proofs.Quiet.{both}

-- ---- one more

any-two : {X : Type 0} (p : X → Bool) (xs : List X) (x : X) → list_any p xs ≡ false → p x ≡ false → list_any p (xs ++ x ∷ []) ≡ false
any-two p [] x h k = rw k refl
any-two p (y ∷ xs) x h k = rw (or_first (p y) (list_any p xs) h) (any-two p xs x (or_second (p y) (list_any p xs) h) k)

-- an element that none before it is like
pub differ-last : {X : Type 0} (r : X → X → Bool) (xs : List X) (x : X) → IsTrue (all_differ r xs) → list_any (λ y. r y x) xs ≡ false → IsTrue (all_differ r (xs ++ x ∷ []))
differ-last r [] x h k = refl
differ-last r (y ∷ xs) x h k =
    let here = any-two (r y) xs x (true-is (list_any (r y) xs) (and_first (not (list_any (r y) xs)) (all_differ r xs) h)) (or_first (r y x) (list_any (λ y. r y x) xs) k) in
    both (not (list_any (r y) (xs ++ x ∷ []))) (all_differ r (xs ++ x ∷ [])) (false-is (list_any (r y) (xs ++ x ∷ [])) here)
    (differ-last r xs x (and_second (not (list_any (r y) xs)) (all_differ r xs) h) (or_second (r y x) (list_any (λ y. r y x) xs) k))

any-map : {X Y : Type 0} (p : Y → Bool) (f : X → Y) (xs : List X) → list_any (λ x. p (f x)) xs ≡ list_any p (map f xs)
any-map p f [] = refl
any-map p f (x ∷ xs) = ap (λ b. p (f x) || b) (any-map p f xs)

-- of what elements have
pub differ-map : {X Y : Type 0} (r : Y → Y → Bool) (f : X → Y) (xs : List X) → all_differ (λ a b. r (f a) (f b)) xs ≡ all_differ r (map f xs)
differ-map r f [] = refl
differ-map r f (x ∷ xs) = λ i. not (any-map (r (f x)) f xs i) && differ-map r f xs i

-- where each two that are alike in one way are so in another
none-more : {X : Type 0} (p q good : X → Bool) → ((y : X) → IsTrue (good y) → p y ≡ true → q y ≡ true) → (xs : List X) → IsTrue (list_all good xs) → list_any q xs ≡ false → list_any p xs ≡ false
none-more p q good shows [] all h = refl
none-more p q good shows (y ∷ xs) all h =
    let rest = none-more p q good shows xs (and_second (good y) (list_all good xs) all) (or_second (q y) (list_any q xs) h) in
    elim (cases_Bool (p y)) [
      | inl t ↦ absurd (let wrong : true ≡ false = sym (shows y (and_first (good y) (list_all good xs) all) t) ∙ or_first (q y) (list_any q xs) h in cc)
      | inr f ↦ rw f rest
    ]

pub differ-more : {X : Type 0} (r s : X → X → Bool) (good : X → Bool) → ((x y : X) → IsTrue (good x) → IsTrue (good y) → r x y ≡ true → s x y ≡ true) → (xs : List X) → IsTrue (list_all good xs)
    → IsTrue (all_differ s xs) → IsTrue (all_differ r xs)
differ-more r s good shows [] all h = refl
differ-more r s good shows (x ∷ xs) all h =
    let here = and_first (good x) (list_all good xs) all in
    let rest = and_second (good x) (list_all good xs) all in
    let apart = true-is (list_any (s x) xs) (and_first (not (list_any (s x) xs)) (all_differ s xs) h) in
    both (not (list_any (r x) xs)) (all_differ r xs) (false-is (list_any (r x) xs) (none-more (r x) (s x) good (λ y g e. shows x y here g e) xs rest apart))
    (differ-more r s good shows xs rest (and_second (not (list_any (s x) xs)) (all_differ s xs) h))

-- ---- elements that are found

pub found-passes : {X : Type 0} (p : X → Bool) (xs : List X) (x : X) → find p xs ≡ Some x → p x ≡ true
found-passes p [] x e = cc
found-passes p (y ∷ xs) x e = elim (cases_Bool (p y)) [
  | inl t ↦ (let here : Some y ≡ Some x = rw t at e in let is : y ≡ x = cc in ap p (sym is) ∙ t)
  | inr f ↦ found-passes p xs x (rw f at e)
]

pub found-good : {X : Type 0} (p good : X → Bool) (xs : List X) (x : X) → IsTrue (list_all good xs) → find p xs ≡ Some x → IsTrue (good x)
found-good p good [] x all e = cc
found-good p good (y ∷ xs) x all e = elim (cases_Bool (p y)) [
  | inl t ↦ (let here : Some y ≡ Some x = rw t at e in let is : y ≡ x = cc in subst (λ z. IsTrue (good z)) is (and_first (good y) (list_all good xs) all))
  | inr f ↦ found-good p good xs x (and_second (good y) (list_all good xs) all) (rw f at e)
]

none-found : {X : Type 0} (p q : X → Bool) (xs : List X) (x : X) → find p xs ≡ Some x → list_any q xs ≡ false → q x ≡ false
none-found p q [] x e h = cc
none-found p q (y ∷ xs) x e h = elim (cases_Bool (p y)) [
  | inl t ↦ (let here : Some y ≡ Some x = rw t at e in let is : y ≡ x = cc in ap q (sym is) ∙ or_first (q y) (list_any q xs) h)
  | inr f ↦ none-found p q xs x (rw f at e) (or_second (q y) (list_any q xs) h)
]

-- two that are found and alike are the same
pub found-same : {X : Type 0} (r : X → X → Bool) → ((x y : X) → r x y ≡ r y x) → (p q : X → Bool) (xs : List X) (x y : X) → IsTrue (all_differ r xs) → find p xs ≡ Some x → find q xs ≡ Some y → r x y ≡ true → x ≡ y
found-same r turn p q [] x y h e f alike = cc
found-same r turn p q (z ∷ xs) x y h e f alike =
    let apart = true-is (list_any (r z) xs) (and_first (not (list_any (r z) xs)) (all_differ r xs) h) in
    elim (cases_Bool (p z)) [
      | inl t ↦
          (let first : Some z ≡ Some x = rw t at e in
          let is : z ≡ x = cc in
          elim (cases_Bool (q z)) [
            | inl u ↦ (let second : Some z ≡ Some y = rw u at f in let same_one : z ≡ y = cc in sym is ∙ same_one)
            | inr u ↦ absurd (let wrong : true ≡ false = sym alike ∙ ap (λ w. r w y) (sym is) ∙ none-found q (r z) xs y (rw u at f) apart in cc)
          ])
      | inr t ↦
          (elim (cases_Bool (q z)) [
            | inl u ↦
                (let second : Some z ≡ Some y = rw u at f in
                let is : z ≡ y = cc in
                absurd (let wrong : true ≡ false = sym alike ∙ ap (r x) (sym is) ∙ turn x z ∙ none-found p (r z) xs x (rw t at e) apart in cc))
            | inr u ↦ found-same r turn p q xs x y (and_second (not (list_any (r z) xs)) (all_differ r xs) h) (rw t at e) (rw u at f) alike
          ])
    ]

-- ---- places

pub numbered-length : {X : Type 0} (k : ℕ) (xs : List X) → length (map (λ (e : ℕ × X). e.0) (enumerate_from k xs)) ≡ length xs
numbered-length k [] = refl
numbered-length k (x ∷ xs) = ap (λ n. suc n) (numbered-length (k + 1) xs)

all-later : {X : Type 0} (k n : ℕ) (xs : List X) → k < n → list_any (nat_eq k) (map (λ (e : ℕ × X). e.0) (enumerate_from n xs)) ≡ false
all-later k n [] h = refl
all-later k n (x ∷ xs) h = let here : nat_eq k n ≡ false = grind (arith, nat_tests) in rw here (all-later k (n + 1) xs (omega arith))

-- numbers that are counted
pub numbered-differ : {X : Type 0} (k : ℕ) (xs : List X) → IsTrue (all_differ nat_eq (map (λ (e : ℕ × X). e.0) (enumerate_from k xs)))
numbered-differ {X} k [] = refl
numbered-differ {X} k (x ∷ xs) =
    let rest = map (λ (e : ℕ × X). e.0) (enumerate_from (k + 1) xs) in
    both (not (list_any (nat_eq k) rest)) (all_differ nat_eq rest) (false-is (list_any (nat_eq k) rest) (all-later k (k + 1) xs (omega arith))) (numbered-differ (k + 1) xs)

none-at : (p : ℕ → Bool) (xs : List ℕ) (j : ℕ) → list_any p xs ≡ false → j < length xs → p (slice_index xs j) ≡ false
none-at p [] j h less = absurd (omega arith)
none-at p (x ∷ xs) zero h less = or_first (p x) (list_any p xs) h
none-at p (x ∷ xs) (suc j) h less = none-at p xs j (or_second (p x) (list_any p xs) h) (omega arith)

-- in a list of distinct elements equal ones have the same place
pub same-place : (xs : List ℕ) (i j : ℕ) → IsTrue (all_differ nat_eq xs) → i < length xs → j < length xs → nat_eq (slice_index xs i) (slice_index xs j) ≡ true → i ≡ j
same-place [] i j h a b e = absurd (omega arith)
same-place (x ∷ xs) zero zero h a b e = refl
same-place (x ∷ xs) zero (suc j) h a b e =
    let apart = true-is (list_any (nat_eq x) xs) (and_first (not (list_any (nat_eq x) xs)) (all_differ nat_eq xs) h) in
    absurd (let wrong : true ≡ false = sym e ∙ none-at (nat_eq x) xs j apart (omega arith) in cc)
same-place (x ∷ xs) (suc i) zero h a b e =
    let apart = true-is (list_any (nat_eq x) xs) (and_first (not (list_any (nat_eq x) xs)) (all_differ nat_eq xs) h) in
    let alike : nat_eq (slice_index xs i) x ≡ true = e in
    let turned : nat_eq x (slice_index xs i) ≡ true = grind (arith, nat_tests) in
    absurd (let wrong : true ≡ false = sym turned ∙ none-at (nat_eq x) xs i apart (omega arith) in cc)
same-place (x ∷ xs) (suc i) (suc j) h a b e =
    ap (λ n. suc n) (same-place xs i j (and_second (not (list_any (nat_eq x) xs)) (all_differ nat_eq xs) h) (omega arith) (omega arith) e)

pub some-position : {X : Type 0} (p : X → Bool) (n : ℕ) (xs : List X) → list_any p xs ≡ true → (j : ℕ) × (position_from p n xs ≡ Some j)
some-position p n [] h = cc
some-position p n (x ∷ xs) h = elim (cases_Bool (p x)) [
  | inl t ↦ (n, rw t refl)
  | inr f ↦ (let more : list_any p xs ≡ true = rw f at h in let (j, e) = some-position p (n + 1) xs more in (j, rw f e))
]

position-above : {X : Type 0} (p : X → Bool) (n : ℕ) (xs : List X) (j : ℕ) → position_from p n xs ≡ Some j → n ≤ j
position-above p n [] j e = cc
position-above p n (x ∷ xs) j e = elim (cases_Bool (p x)) [
  | inl t ↦ (let h = rw t at e in let is : n ≡ j = cc in omega arith)
  | inr f ↦ (let h = rw f at e in omega (arith, position-above p (n + 1) xs j h))
]

-- two names with the same place are equal
pub same-names : (a b : List ℕ) (n : ℕ) (names : List (List ℕ)) (j : ℕ) → position_from (same a) n names ≡ Some j → position_from (same b) n names ≡ Some j → a ≡ b
same-names a b n [] j e f = cc
same-names a b n (x ∷ names) j e f = elim (cases_Bool (same a x)) [
  | inl t ↦
      (let here = rw t at e in
      let is : n ≡ j = cc in
      elim (cases_Bool (same b x)) [
        | inl u ↦ same-text a x t ∙ sym (same-text b x u)
        | inr u ↦ (let later = position-above (same b) (n + 1) names j (rw u at f) in absurd (omega (arith, is, later)))
      ])
  | inr t ↦
      (elim (cases_Bool (same b x)) [
        | inl u ↦ (let here = rw u at f in let is : n ≡ j = cc in let later = position-above (same a) (n + 1) names j (rw t at e) in absurd (omega (arith, is, later)))
        | inr u ↦ same-names a b (n + 1) names j (rw t at e) (rw u at f)
      ])
]
