-- Lists that begin with others.
use Rattle.std.proofs.Common.{◌≡◌, ℕ, zero, suc, ◌+◌, ◌<◌, ◌≤◌, Bool, true, false, ◌&&◌, IsTrue, List, [], ◌∷◌, ◌++◌, length, take, drop, map, Some, refl, sym, ap, ◌∙◌, arith, append_assoc, length-append}
use Rattle.std.specs.List.{list_all, slice_get}
use Rattle.std.proofs.Math.Seq.{take-append_seam, take-length}
use Rattle.std.proofs.lemmas.List.{take-append-drop, map-append}
use Rattle.sal_schema.specs.Table.{all_from}
use Rattle.sal_schema.specs.Versions.{BeginsWith, on}
use Rattle.sal_schema.proofs.Conjuncts.{and_first, and_second}
use Rattle.sal_schema.proofs.Facts.{slice_get_there}

pub both : (a b : Bool) → IsTrue a → IsTrue b → IsTrue (a && b)
both true b h k = k
both false b h k = h

-- ---- a list and its front

pub front-is : {X : Type 0} (xs front : List X) → BeginsWith xs front → xs ≡ front ++ drop (length front) xs
front-is xs front e = sym (take-append-drop (length front) xs) ∙ ap (λ l. l ++ drop (length front) xs) e

pub is-front : {X : Type 0} (front rest : List X) → BeginsWith (front ++ rest) front
is-front front rest = take-append_seam front rest

pub front-itself : {X : Type 0} (xs : List X) → BeginsWith xs xs
front-itself xs = take-length xs

pub front-on : {X : Type 0} (xs front first : List X) → BeginsWith xs front → BeginsWith front first → BeginsWith xs first
front-on xs front first e f =
    let whole : xs ≡ first ++ (drop (length first) front ++ drop (length front) xs) =
    front-is xs front e ∙ ap (λ l. l ++ drop (length front) xs) (front-is front first f) ∙ append_assoc first (drop (length first) front) (drop (length front) xs) in
    ap (take (length first)) whole ∙ take-append_seam first (drop (length first) front ++ drop (length front) xs)

pub front-long : {X : Type 0} (xs front : List X) → BeginsWith xs front → length front ≤ length xs
front-long xs front e = let all = ap length (front-is xs front e) in let count = length-append front (drop (length front) xs) in omega arith

pub front-all : {X : Type 0} (xs front : List X) → BeginsWith xs front → length xs ≡ length front → xs ≡ front
front-all xs front e count = sym (take-length xs) ∙ ap (λ n. take n xs) count ∙ e

got-front : {X : Type 0} (front rest : List X) (k : ℕ) (x : X) → slice_get front k ≡ Some x → slice_get (front ++ rest) k ≡ Some x
got-front [] rest k x e = cc
got-front (y ∷ front) rest zero x e = e
got-front (y ∷ front) rest (suc k) x e = got-front front rest k x e

-- the item there
pub got-stays : {X : Type 0} (xs front : List X) (k : ℕ) (x : X) → BeginsWith xs front → slice_get front k ≡ Some x → slice_get xs k ≡ Some x
got-stays xs front k x e got = ap (λ l. slice_get l k) (front-is xs front e) ∙ got-front front (drop (length front) xs) k x got

pub got-same : {X : Type 0} (xs front : List X) (k : ℕ) → BeginsWith xs front → k < length front → slice_get xs k ≡ slice_get front k
got-same xs front k e inside = let (x, got) = slice_get_there front k inside in got-stays xs front k x e got ∙ sym got

-- ---- properties of each

pub all-more : {X : Type 0} (p q : X → Bool) → ((x : X) → IsTrue (p x) → IsTrue (q x)) → (xs : List X) → IsTrue (list_all p xs) → IsTrue (list_all q xs)
all-more p q each [] h = refl
all-more p q each (x ∷ xs) h = both (q x) (list_all q xs) (each x (and_first (p x) (list_all p xs) h)) (all-more p q each xs (and_second (p x) (list_all p xs) h))

pub all-same : {X : Type 0} (good p q : X → Bool) → ((x : X) → IsTrue (good x) → p x ≡ q x) → (xs : List X) → IsTrue (list_all good xs) → list_all p xs ≡ list_all q xs
all-same good p q each [] h = refl
all-same good p q each (x ∷ xs) h =
    let here = each x (and_first (good x) (list_all good xs) h) in
    let rest = all-same good p q each xs (and_second (good x) (list_all good xs) h) in
    λ i. here i && rest i

pub from-more : {X : Type 0} (p q : ℕ → X → Bool) → ((i : ℕ) (x : X) → IsTrue (p i x) → IsTrue (q i x)) → (i : ℕ) (xs : List X) → IsTrue (all_from p i xs) → IsTrue (all_from q i xs)
from-more p q each i [] h = refl
from-more p q each i (x ∷ xs) h = both (q i x) (all_from q (i + 1) xs) (each i x (and_first (p i x) (all_from p (i + 1) xs) h)) (from-more p q each (i + 1) xs (and_second (p i x) (all_from p (i + 1) xs) h))

pub from-joined : {X : Type 0} (p : ℕ → X → Bool) (i k : ℕ) (xs ys : List X) → k ≡ i + length xs → IsTrue (all_from p i xs) → IsTrue (all_from p k ys) → IsTrue (all_from p i (xs ++ ys))
from-joined p i k [] ys e h g = let same : k ≡ i = omega arith in rw same at g
from-joined p i k (x ∷ xs) ys e h g =
    both (p i x) (all_from p (i + 1) (xs ++ ys)) (and_first (p i x) (all_from p (i + 1) xs) h) (from-joined p (i + 1) k xs ys (omega arith) (and_second (p i x) (all_from p (i + 1) xs) h) g)

pub from-rest : {X : Type 0} (p : ℕ → X → Bool) (i n : ℕ) (xs : List X) → IsTrue (all_from p i xs) → IsTrue (all_from p (i + n) (drop n xs))
from-rest p i zero xs h = let same : i + zero ≡ i = omega arith in rw same h
from-rest p i (suc n) [] h = refl
from-rest p i (suc n) (x ∷ xs) h =
    let same : i + suc n ≡ i + 1 + n = omega arith in
    rw same (from-rest p (i + 1) n xs (and_second (p i x) (all_from p (i + 1) xs) h))

pub all-rest : {X : Type 0} (p : X → Bool) (n : ℕ) (xs : List X) → IsTrue (list_all p xs) → IsTrue (list_all p (drop n xs))
all-rest p zero xs h = h
all-rest p (suc n) [] h = refl
all-rest p (suc n) (x ∷ xs) h = all-rest p n xs (and_second (p x) (list_all p xs) h)

pub all-joined : {X : Type 0} (p : X → Bool) (xs ys : List X) → IsTrue (list_all p xs) → IsTrue (list_all p ys) → IsTrue (list_all p (xs ++ ys))
all-joined p [] ys h k = k
all-joined p (x ∷ xs) ys h k = both (p x) (list_all p (xs ++ ys)) (and_first (p x) (list_all p xs) h) (all-joined p xs ys (and_second (p x) (list_all p xs) h) k)

pub all-mapped : {X Y : Type 0} (f : X → Y) (p : Y → Bool) (xs : List X) → list_all (λ x. p (f x)) xs ≡ list_all p (map f xs)
all-mapped f p [] = refl
all-mapped f p (x ∷ xs) = ap (λ b. p (f x) && b) (all-mapped f p xs)

-- ---- an older list with the rest of a whole

pub on-long : {X : Type 0} (front whole : List X) → length front ≤ length whole → length (on front whole) ≡ length whole
on-long front whole h =
    let all = ap length (take-append-drop (length front) whole) in
    let first = length-append (take (length front) whole) (drop (length front) whole) in
    let taken = length-append front (drop (length front) whole) in
    let few = length-front (length front) whole h in
    omega arith
  where
    length-front : {X : Type 0} (n : ℕ) (xs : List X) → n ≤ length xs → length (take n xs) ≡ n
    length-front zero xs h = refl
    length-front (suc n) [] h = absurd (omega arith)
    length-front (suc n) (x ∷ xs) h = ap suc (length-front n xs (omega arith))

-- the images under a function are those of the whole list, where these begin with those of the front
pub on-mapped : {X Y : Type 0} (f : X → Y) (front whole : List X) → BeginsWith (map f whole) (map f front) → map f (on front whole) ≡ map f whole
on-mapped {X} f front whole e =
    map-append f front (drop (length front) whole) ∙ ap (λ l. map f front ++ l) (rests (length front) whole ∙ ap (λ n. drop n (map f whole)) (sym (same-length front))) ∙ sym (front-is (map f whole) (map f front) e)
  where
    same-length : (xs : List X) → length (map f xs) ≡ length xs
    same-length [] = refl
    same-length (x ∷ xs) = ap suc (same-length xs)

    rests : (n : ℕ) (xs : List X) → map f (drop n xs) ≡ drop n (map f xs)
    rests zero xs = refl
    rests (suc n) [] = refl
    rests (suc n) (x ∷ xs) = rests n xs
