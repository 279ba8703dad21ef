-- Lists without faults.
use Rattle.std.proofs.Common.{◌≡◌, ℕ, ◌+◌, ◌<◌, ◌≤◌, arith, Bool, IsTrue, List, [], ◌∷◌, ◌++◌, map, length, refl}
use Rattle.std.specs.List.{list_all, flat_map, enumerate_from}
use Rattle.sal_schema.specs.Table.{all_from}
use Rattle.sal_schema.proofs.Conjuncts.{and_first, and_second}
pub use Rattle.sal_schema.proofs.Fronts.{both}

pub front-nil : {X : Type 0} (xs ys : List X) → xs ++ ys ≡ [] → (xs ≡ []) × (ys ≡ [])
front-nil [] ys e = (refl, e)
front-nil (x ∷ xs) ys e = cc

-- what finds nothing in any shows the test of each
pub all-quiet : {X Y : Type 0} (f : X → List Y) (test : X → Bool) → ((x : X) → f x ≡ [] → IsTrue (test x)) → (xs : List X) → flat_map f xs ≡ [] → IsTrue (list_all test xs)
all-quiet f test shows [] e = refl
all-quiet f test shows (x ∷ xs) e =
    let (here, rest) = front-nil (f x) (flat_map f xs) e in
    both (test x) (list_all test xs) (shows x here) (all-quiet f test shows xs rest)

-- with their numbers
pub numbered-quiet : {X Y : Type 0} (f : ℕ → X → List Y) (test : X → Bool) → ((i : ℕ) (x : X) → f i x ≡ [] → IsTrue (test x)) → (i : ℕ) (xs : List X)
    → flat_map (λ (e : ℕ × X). f e.0 e.1) (enumerate_from i xs) ≡ [] → IsTrue (list_all test xs)
numbered-quiet f test shows i [] e = refl
numbered-quiet f test shows i (x ∷ xs) e =
    let (here, rest) = front-nil (f i x) (flat_map (λ e. f e.0 e.1) (enumerate_from (i + 1) xs)) e in
    both (test x) (list_all test xs) (shows i x here) (numbered-quiet f test shows (i + 1) xs rest)

pub all-map : {X Y : Type 0} (f : X → Y) (test : Y → Bool) (xs : List X) → IsTrue (list_all (λ x. test (f x)) xs) → IsTrue (list_all test (map f xs))
all-map f test [] h = refl
all-map f test (x ∷ xs) h =
    both (test (f x)) (list_all test (map f xs)) (and_first (test (f x)) (list_all (λ y. test (f y)) xs) h) (all-map f test xs (and_second (test (f x)) (list_all (λ y. test (f y)) xs) h))

pub all-joined : {X : Type 0} (test : X → Bool) (xs ys : List X) → IsTrue (list_all test xs) → IsTrue (list_all test ys) → IsTrue (list_all test (xs ++ ys))
all-joined test [] ys h k = k
all-joined test (x ∷ xs) ys h k = both (test x) (list_all test (xs ++ ys)) (and_first (test x) (list_all test xs) h) (all-joined test xs ys (and_second (test x) (list_all test xs) h) k)

-- what finds nothing in any shows the test of all that each gives
pub flat-quiet : {X Y Z : Type 0} (f : X → List Y) (g : X → List Z) (test : Z → Bool) → ((x : X) → f x ≡ [] → IsTrue (list_all test (g x))) → (xs : List X) → flat_map f xs ≡ []
    → IsTrue (list_all test (flat_map g xs))
flat-quiet f g test shows [] e = refl
flat-quiet f g test shows (x ∷ xs) e =
    let (here, rest) = front-nil (f x) (flat_map f xs) e in
    all-joined test (g x) (flat_map g xs) (shows x here) (flat-quiet f g test shows xs rest)

pub numbered-flat : {X Y Z : Type 0} (f : ℕ → X → List Y) (g : ℕ → X → List Z) (test : Z → Bool) (count : ℕ) → ((i : ℕ) (x : X) → i < count → f i x ≡ [] → IsTrue (list_all test (g i x)))
    → (i : ℕ) (xs : List X) → i + length xs ≤ count → flat_map (λ (e : ℕ × X). f e.0 e.1) (enumerate_from i xs) ≡ [] → IsTrue (list_all test (flat_map (λ (e : ℕ × X). g e.0 e.1) (enumerate_from i xs)))
numbered-flat f g test count shows i [] h e = refl
numbered-flat f g test count shows i (x ∷ xs) h e =
    let (here, rest) = front-nil (f i x) (flat_map (λ e. f e.0 e.1) (enumerate_from (i + 1) xs)) e in
    all-joined test (g i x) (flat_map (λ e. g e.0 e.1) (enumerate_from (i + 1) xs)) (shows i x (omega arith) here) (numbered-flat f g test count shows (i + 1) xs (omega arith) rest)

-- and with its number of each
pub from-quiet : {X Y : Type 0} (f : ℕ → X → List Y) (test : ℕ → X → Bool) → ((i : ℕ) (x : X) → f i x ≡ [] → IsTrue (test i x)) → (i : ℕ) (xs : List X)
    → flat_map (λ (e : ℕ × X). f e.0 e.1) (enumerate_from i xs) ≡ [] → IsTrue (all_from test i xs)
from-quiet f test shows i [] e = refl
from-quiet f test shows i (x ∷ xs) e =
    let (here, rest) = front-nil (f i x) (flat_map (λ e. f e.0 e.1) (enumerate_from (i + 1) xs)) e in
    both (test i x) (all_from test (i + 1) xs) (shows i x here) (from-quiet f test shows (i + 1) xs rest)
