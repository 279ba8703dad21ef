-- The patterns of an older version of a schema begin those of a later one.
use Rattle.std.proofs.Common.{◌≡◌, ℕ, zero, suc, ◌<◌, List, [], ◌∷◌, length, map, take, get_or, Some, refl, ap, sym, ◌∙◌, arith}
use Rattle.std.specs.List.{slice_get}
use Rattle.std.proofs.lemmas.List.{length-map}
use Rattle.sal_schema.specs.declared.table.SchemaTable.{SchemaTable}
use Rattle.sal_schema.specs.Versions.{BeginsWith, Extends}
use Rattle.sal_json.specs.Patterns.{Text, patterns_of, type_searched}

-- all of a list under f
pub take_all-map : {X Y : Type 0} (f : X → Y) (xs : List X) → take (length xs) (map f xs) ≡ map f xs
take_all-map f [] = refl
take_all-map f (x ∷ xs) = ap (λ ys. f x ∷ ys) (take_all-map f xs)

-- fronts under f
begins-map : {X Y : Type 0} (f : X → Y) (xs front : List X) → BeginsWith xs front → BeginsWith (map f xs) (map f front)
begins-map f xs [] e = refl
begins-map f [] (y ∷ front) e = cc
begins-map f (x ∷ xs) (y ∷ front) e =
    let first : x ≡ y = cc in
    let rest : take (length front) xs ≡ front = cc in
    ap (λ z. f z ∷ take (length (map f front)) (map f xs)) first ∙ ap (λ ys. f y ∷ ys) (begins-map f xs front rest)

pub patterns_begin : (newer older : SchemaTable) → Extends newer older → BeginsWith (patterns_of newer) (patterns_of older)
patterns_begin newer older extends = begins-map type_searched newer.types older.types extends.types

-- what a front begins with
front_of : {X : Type 0} (n : ℕ) (xs front : List X) → BeginsWith (take n xs) front → BeginsWith xs front
front_of n xs [] e = refl
front_of zero xs (y ∷ front) e = cc
front_of (suc n) [] (y ∷ front) e = cc
front_of (suc n) (x ∷ xs) (y ∷ front) e =
    let first : x ≡ y = cc in
    let rest : take (length front) (take n xs) ≡ front = cc in
    ap (λ z. z ∷ take (length front) xs) first ∙ ap (λ ys. y ∷ ys) (front_of n xs front rest)

-- as many of them as the older version has types
pub older_patterns : (n : ℕ) (all : List (List (List Text))) (older : SchemaTable) → BeginsWith (take n all) (patterns_of older) → take (length older.types) all ≡ patterns_of older
older_patterns n all older begins = ap (λ k. take k all) (sym (length-map older.types type_searched)) ∙ front_of n all (patterns_of older) begins

-- a place in a front
pub within_take : {X : Type 0} (n k : ℕ) (xs : List X) → k < length (take n xs) → k < length xs
within_take zero k xs less = absurd (omega (arith, less))
within_take (suc n) k [] less = absurd (omega (arith, less))
within_take (suc n) zero (x ∷ xs) less = omega arith
within_take (suc n) (suc k) (x ∷ xs) less = let rest = within_take n k xs (omega (arith, less)) in omega (arith, rest)

pub got_take : {X : Type 0} (n k : ℕ) (xs : List X) (x : X) → k < length (take n xs) → x ≡ get_or xs k x → slice_get (take n xs) k ≡ Some x
got_take zero k xs x less is = absurd (omega (arith, less))
got_take (suc n) k [] x less is = absurd (omega (arith, less))
got_take (suc n) zero (y ∷ xs) x less is = ap Some (sym is)
got_take (suc n) (suc k) (y ∷ xs) x less is = got_take n k xs x (omega (arith, less)) is
