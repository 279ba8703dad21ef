-- Walks over lists, one item more and all; what lists that are made of others have.
use Rattle.std.proofs.Common.{◌≡◌, ℕ, zero, suc, ◌+◌, ◌<◌, ◌≤◌, Bool, false, List, [], ◌∷◌, ◌++◌, drop, length, get_or, map, min, take, Option, None, Some, inl, inr, refl, ap, sym, ◌∙◌, arith, if◌then◌else◌}
use Rattle.std.specs.Prelude.{◌⊎◌, ◌||◌, slice_get}
use Rattle.std.specs.List.{cons_option, filter_map, list_any}
use Rattle.std.specs.Option.{option_map, option_map_or, option_or, option_to_list}
use Rattle.std.proofs.lemmas.Bool.{cases_lt}
use Rattle.std.proofs.lemmas.List.{drop_all, drop_more, length-take, take_more}
use Rattle.sal_history.specs.Submissions.{last_from}
use Rattle.sal_history.proofs.Logs.{last_from-push}

-- ---- two lists side by side

-- a walk over both, one item more
pub both_more : {A B C : Type 0} (f : List A → List B → C) (xs : List A) (ys : List B) (i : ℕ) (x : A) (y : B) → i < length xs → i < length ys → x ≡ get_or xs i x → y ≡ get_or ys i y → f (drop i xs) (drop i ys) ≡ f (x ∷ drop (i + 1) xs) (y ∷ drop (i + 1) ys)
both_more {A} {B} f xs ys i x y hx hy ex ey =
    let more : drop i xs ≡ x ∷ drop (i + 1) xs = drop_more xs i x hx ∙ ap (λ (a : A). a ∷ drop (i + 1) xs) (sym ex) in
    let others : drop i ys ≡ y ∷ drop (i + 1) ys = drop_more ys i y hy ∙ ap (λ (b : B). b ∷ drop (i + 1) ys) (sym ey) in
    ap (λ (front : List A). f front (drop i ys)) more ∙ ap (λ (bs : List B). f (x ∷ drop (i + 1) xs) bs) others

one_ends : (a b i : ℕ) → min a b ≤ i → ((a < b) ⊎ (b ≤ a)) → ((a ≤ i) ⊎ (b ≤ i))
one_ends a b i h (inl l) = inl (omega arith)
one_ends a b i h (inr l) = inr (omega arith)

at_end : {A B C : Type 0} (f : List A → List B → C) (z : C) → ((ys : List B) → f [] ys ≡ z) → ((xs : List A) → f xs [] ≡ z) → (xs : List A) (ys : List B) (i : ℕ) → ((length xs ≤ i) ⊎ (length ys ≤ i)) → f (drop i xs) (drop i ys) ≡ z
at_end {A} {B} f z first second xs ys i (inl h) = ap (λ (front : List A). f front (drop i ys)) (drop_all i xs h) ∙ first (drop i ys)
at_end {A} {B} f z first second xs ys i (inr h) = ap (λ (bs : List B). f (drop i xs) bs) (drop_all i ys h) ∙ second (drop i xs)

-- and at its end
pub both_all : {A B C : Type 0} (f : List A → List B → C) (z : C) → ((ys : List B) → f [] ys ≡ z) → ((xs : List A) → f xs [] ≡ z) → (xs : List A) (ys : List B) (i : ℕ) → min (length xs) (length ys) ≤ i → f (drop i xs) (drop i ys) ≡ z
both_all f z first second xs ys i h = at_end f z first second xs ys i (one_ends (length xs) (length ys) i h (cases_lt (length xs) (length ys)))

-- ---- the last that passes a test

-- one item more
pub last_more : {X : Type 0} (n : ℕ) (test : X → Bool) (xs : List X) (i k : ℕ) (d : X) (last new : Option ℕ) → i < length xs → k ≡ n + i → last ≡ last_from n test (take i xs)
    → new ≡ option_or (if test (get_or xs i d) then Some k else None) last → new ≡ last_from n test (take (i + 1) xs)
last_more n test xs i k d last new h at before now =
    let x = get_or xs i d in
    let count : k ≡ n + length (take i xs) = omega (arith, at, h, length-take i xs) in
    now ∙ ap (λ (o : Option ℕ). option_or (if test x then Some k else None) o) before
    ∙ ap (λ (j : ℕ). option_or (if test x then Some j else None) (last_from n test (take i xs))) count
    ∙ sym (last_from-push n test (take i xs) x)
    ∙ ap (last_from n test) (sym (take_more xs i d h))

-- of a list that is made of another
pub last_from-through : {X Y : Type 0} (n : ℕ) (test : Y → Bool) (other : X → Bool) (f : X → Y) → ((x : X) → test (f x) ≡ other x) → (xs : List X) → last_from n test (map f xs) ≡ last_from n other xs
last_from-through n test other f same [] = refl
last_from-through n test other f same (x ∷ xs) =
    ap (λ o. option_or o (if test (f x) then Some n else None)) (last_from-through (n + 1) test other f same xs)
    ∙ ap (λ (b : Bool). option_or (last_from (n + 1) other xs) (if b then Some n else None)) (same x)

-- ---- items of a list

pub slice_get-map : {X Y : Type 0} (f : X → Y) (xs : List X) (k : ℕ) → slice_get (map f xs) k ≡ option_map f (slice_get xs k)
slice_get-map f [] k = refl
slice_get-map f (x ∷ xs) zero = refl
slice_get-map f (x ∷ xs) (suc k) = slice_get-map f xs k

pub slice_get_seam : {X : Type 0} (xs : List X) (y : X) (ys : List X) → slice_get (xs ++ y ∷ ys) (length xs) ≡ Some y
slice_get_seam [] y ys = refl
slice_get_seam (x ∷ xs) y ys = slice_get_seam xs y ys

pub slice_get_some : {X : Type 0} (xs : List X) (i : ℕ) → i < length xs → (x : X) × (slice_get xs i ≡ Some x)
slice_get_some [] i h = absurd (omega arith)
slice_get_some (y ∷ xs) zero h = (y, refl)
slice_get_some (y ∷ xs) (suc i) h = slice_get_some xs i (omega arith)

pub slice_get_none : {X : Type 0} (xs : List X) (i : ℕ) → length xs ≤ i → slice_get xs i ≡ None
slice_get_none [] i h = refl
slice_get_none (y ∷ xs) zero h = absurd (omega arith)
slice_get_none (y ∷ xs) (suc i) h = slice_get_none xs i (omega arith)

any_cons : {Y : Type 0} (test : Y → Bool) (o : Option Y) (ys : List Y) → list_any test (cons_option o ys) ≡ (option_map_or test o false || list_any test ys)
any_cons test None ys = refl
any_cons test (Some y) ys = refl

-- one of those that a list gives passes the test
pub list_any-through : {X Y : Type 0} (test : Y → Bool) (other : X → Bool) (f : X → Option Y) → ((x : X) → option_map_or test (f x) false ≡ other x) → (xs : List X) → list_any test (filter_map f xs) ≡ list_any other xs
list_any-through test other f same [] = refl
list_any-through test other f same (x ∷ xs) =
    any_cons test (f x) (filter_map f xs)
    ∙ ap (λ (b : Bool). b || list_any test (filter_map f xs)) (same x)
    ∙ ap (λ (b : Bool). other x || b) (list_any-through test other f same xs)

pub map-listed : {X Y : Type 0} (f : X → Y) (o : Option X) → map f (option_to_list o) ≡ option_to_list (option_map f o)
map-listed f None = refl
map-listed f (Some x) = refl
