-- A client's box when notifications are offered and withdrawn.
use Rattle.std.proofs.Common.{◌≡◌, ℕ, zero, suc, ◌-◌, ◌<◌, ◌≤◌, Bool, true, false, ◌||◌, List, [], ◌∷◌, ◌++◌, Option, Some, None, length, drop, take, get_or, refl, ap, sym, ◌∙◌, cond, arith, append-nil, length-append, drop-cons, if◌then◌else◌, nat_eq}
use Rattle.std.specs.Prelude.{is_some, slice_get}
use Rattle.std.specs.BTreeMap.{is_at}
use Rattle.std.specs.Cmp.{eq_by_cmp_equiv, nat_cmp_total}
use Rattle.std.specs.List.{filter, list_any}
use Rattle.std.specs.Map.{set_value}
use Rattle.std.specs.Option.{unwrap_or}
use Rattle.std.specs.Ordering.{nat_cmp}
use Rattle.std.proofs.lemmas.Bool.Decides.{nat_tests}
use Rattle.std.proofs.lemmas.List.Sums.{fold-append}
use Rattle.std.proofs.lemmas.Map.{lookup-set_value}
use Rattle.std.proofs.lemmas.Map.Steps.{set_value_same}
use Rattle.sal_note.specs.declared.call.Note.{Note}
use Rattle.sal_note.specs.Boxes.{AreAbove, Ascend, box_in, give_one, given, put_back, queue_in, take_one, taken_back}
use Rattle.sal_note.proofs.Ascending.{absent}
pub use Rattle.sal_types.proofs.Handy.{none-of, on_err, remove-insert}

-- ---- the first that passes a test

pub first-passes : (p : ℕ → Bool) (xs : List ℕ) (i : ℕ) → i < length xs → p (get_or xs i 0) ≡ true → filter p (take i xs) ≡ [] → slice_get (filter p xs) 0 ≡ Some (get_or xs i 0)
first-passes p [] i low e none = absurd (omega arith)
first-passes p (x ∷ xs) zero low e none = ap (λ b. slice_get (cond b (x ∷ filter p xs) (filter p xs)) 0) e
first-passes p (x ∷ xs) (suc i) low e none =
    elim (p x) as (λ b. cond b (x ∷ filter p (take i xs)) (filter p (take i xs)) ≡ [] → slice_get (cond b (x ∷ filter p xs) (filter p xs)) 0 ≡ Some (get_or xs i 0)) [
      | true ↦ λ h. cc
      | false ↦ λ h. first-passes p xs i (omega (arith, low)) e h
    ] none

pub none-more : (p : ℕ → Bool) (xs : List ℕ) (i : ℕ) → i < length xs → p (get_or xs i 0) ≡ false → filter p (take i xs) ≡ [] → filter p (take (suc i) xs) ≡ []
none-more p [] i low e none = absurd (omega arith)
none-more p (x ∷ xs) zero low e none = ap (λ b. cond b (x ∷ []) []) e
none-more p (x ∷ xs) (suc i) low e none =
    elim (p x) as (λ b. cond b (x ∷ filter p (take i xs)) (filter p (take i xs)) ≡ [] → cond b (x ∷ filter p (take (suc i) xs)) (filter p (take (suc i) xs)) ≡ []) [
      | true ↦ λ h. cc
      | false ↦ λ h. none-more p xs i (omega (arith, low)) e h
    ] none

pub last-dropped : (xs : List ℕ) (n : ℕ) → 0 < n → n ≤ length xs → drop (n - 1) xs ≡ get_or xs (n - 1) 0 ∷ drop n xs
last-dropped xs zero low high = absurd (omega arith)
last-dropped xs (suc k) low high = let one : suc k - 1 ≡ k = omega arith in let within : k < length xs = omega (arith, high) in ap (λ n. drop n xs) one ∙ drop-cons xs k 0 within ∙ ap (λ n. get_or xs n 0 ∷ drop (suc k) xs) (sym one)

-- ---- one box is written

is_at-number : (k d : ℕ) → is_at (nat_cmp k) d ≡ nat_eq k d
is_at-number k d = grind (arith, nat_tests)

pub box-set : (es : List (ℕ × List Note)) (c : ℕ) (w : List Note) (d : ℕ) → is_some (box_in es c) ≡ true → box_in (set_value (is_at (nat_cmp c)) es w) d ≡ (if nat_eq c d then Some w else box_in es d)
box-set es c w d there =
    lookup-set_value (eq_by_cmp_equiv nat_cmp_total) (is_at (nat_cmp c)) ((eq_by_cmp_equiv nat_cmp_total).congr c) d w es there
    ∙ ap (λ b. cond b (Some w) (box_in es d)) (is_at-number c d)

set-set : {X : Type 0} (test : ℕ → Bool) (es : List (ℕ × X)) (v w : X) → set_value test (set_value test es v) w ≡ set_value test es w
set-set test [] v w = refl
set-set test (e ∷ es) v w =
    elim (test e.0) as (λ b. test e.0 ≡ b → set_value test (cond b ((e.0, v) ∷ es) (e ∷ set_value test es v)) w ≡ cond b ((e.0, w) ∷ es) (e ∷ set_value test es w)) [
      | true ↦ λ h. ap (λ b. cond b ((e.0, w) ∷ es) ((e.0, v) ∷ set_value test es w)) h
      | false ↦ λ h. ap (λ b. cond b ((e.0, w) ∷ set_value test es v) (e ∷ set_value test (set_value test es v) w)) h ∙ ap (λ l. e ∷ l) (set-set test es v w)
    ] refl

-- a box that does not exist is not written
pub none-there : (note : Note) (es : List (ℕ × List Note)) (c : ℕ) → box_in es c ≡ None → give_one note es c ≡ es
none-there note es c none = ap (λ o. put_back es c o (λ q. q ++ note ∷ [])) none

front-of : (q : List Note) (n : Note) → take (length (q ++ n ∷ []) - 1) (q ++ n ∷ []) ≡ q
front-of q n = let long : length (q ++ n ∷ []) - 1 ≡ length q = omega (arith, length-append q (n ∷ [])) in ap (λ k. take k (q ++ n ∷ [])) long ∙ take-front q
  where
    take-front : (q : List Note) → take (length q) (q ++ n ∷ []) ≡ q
    take-front [] = refl
    take-front (x ∷ q) = ap (λ l. x ∷ l) (take-front q)

taken-given : (note : Note) (es : List (ℕ × List Note)) (c : ℕ) → take_one (give_one note es c) c ≡ es
taken-given note es c = by_box (box_in es c) refl
  where
    by_box : (o : Option (List Note)) → box_in es c ≡ o → take_one (give_one note es c) c ≡ es
    by_box None e = ap (λ l. take_one l c) (none-there note es c e) ∙ ap (λ o. put_back es c o (λ q. take (length q - 1) q)) e
    by_box (Some q) e =
        let w : List Note = q ++ note ∷ [] in
        let es2 : List (ℕ × List Note) = set_value (is_at (nat_cmp c)) es w in
        let set : give_one note es c ≡ es2 = ap (λ o. put_back es c o (λ q. q ++ note ∷ [])) e in
        let own : nat_eq c c ≡ true = grind (arith, nat_tests) in
        let there : box_in es2 c ≡ Some w = box-set es c w c (ap is_some e) ∙ ap (λ b. if b then Some w else box_in es c) own in
        ap (λ l. take_one l c) set ∙ ap (λ o. put_back es2 c o (λ q. take (length q - 1) q)) there ∙ ap (set_value (is_at (nat_cmp c)) es2) (front-of q note) ∙ set-set (is_at (nat_cmp c)) es w q ∙ set_value_same (is_at (nat_cmp c)) es q e

-- to give to all and to take back again gives the same boxes
pub all-taken : (note : Note) (es : List (ℕ × List Note)) (cs : List ℕ) → taken_back (given note es cs) cs ≡ es
all-taken note es [] = refl
all-taken note es (c ∷ cs) = ap (λ l. take_one l c) (all-taken note (give_one note es c) cs) ∙ taken-given note es c

pub given-more : (note : Note) (es : List (ℕ × List Note)) (cs : List ℕ) (c : ℕ) → given note es (cs ++ c ∷ []) ≡ give_one note (given note es cs) c
given-more note es cs c = fold-append (give_one note) es cs (c ∷ [])

-- ---- who has got it

box-given : (note : Note) (es : List (ℕ × List Note)) (c d : ℕ) → is_some (box_in es c) ≡ true → box_in (give_one note es c) d ≡ (if nat_eq c d then Some (queue_in es c ++ note ∷ []) else box_in es d)
box-given note es c d there = by_box (box_in es c) refl
  where
    by_box : (o : Option (List Note)) → box_in es c ≡ o → box_in (give_one note es c) d ≡ (if nat_eq c d then Some (queue_in es c ++ note ∷ []) else box_in es d)
    by_box None e = let no : is_some (box_in es c) ≡ false = ap is_some e in cc
    by_box (Some q) e =
        ap (λ o. box_in (put_back es c o (λ q. q ++ note ∷ [])) d) e ∙ box-set es c (q ++ note ∷ []) d there
        ∙ ap (λ (l : List Note). if nat_eq c d then Some (l ++ note ∷ []) else box_in es d) (sym (ap (λ o. unwrap_or o []) e))

still : (note : Note) (es : List (ℕ × List Note)) (c d : ℕ) → is_some (box_in es c) ≡ true → is_some (box_in es d) ≡ true → is_some (box_in (give_one note es c) d) ≡ true
still note es c d there here = ap is_some (box-given note es c d there) ∙ elim (nat_eq c d) as (λ b. is_some (if b then Some (queue_in es c ++ note ∷ []) else box_in es d) ≡ true) [ true ↦ refl | false ↦ here ]

-- each of these clients has a box
abbrev pub HaveBoxes : List (ℕ × List Note) → List ℕ → Type 0
HaveBoxes es cs = (d : ℕ) → list_any (nat_eq d) cs ≡ true → is_some (box_in es d) ≡ true

first-among : (c : ℕ) (cs : List ℕ) → list_any (nat_eq c) (c ∷ cs) ≡ true
first-among c cs = let own : nat_eq c c ≡ true = grind (arith, nat_tests) in ap (λ b. b || list_any (nat_eq c) cs) own

later-among : (d c : ℕ) (cs : List ℕ) → list_any (nat_eq d) cs ≡ true → list_any (nat_eq d) (c ∷ cs) ≡ true
later-among d c cs e = elim (nat_eq d c) as (λ b. (b || list_any (nat_eq d) cs) ≡ true) [ true ↦ refl | false ↦ e ]

pub boxes-stay : (note : Note) (es : List (ℕ × List Note)) (cs : List ℕ) → HaveBoxes es cs → (d : ℕ) → is_some (box_in es d) ≡ true → is_some (box_in (given note es cs) d) ≡ true
boxes-stay note es [] have d here = here
boxes-stay note es (c ∷ cs) have d here =
    let there : is_some (box_in es c) ≡ true = have c (first-among c cs) in
    boxes-stay note (give_one note es c) cs (λ q e. still note es c q there (have q (later-among q c cs e))) d (still note es c d there here)

pub queue-given : (note : Note) (es : List (ℕ × List Note)) (cs : List ℕ) → Ascend cs → HaveBoxes es cs → (d : ℕ) → queue_in (given note es cs) d ≡ queue_in es d ++ (if list_any (nat_eq d) cs then note ∷ [] else [])
queue-given note es [] above have d = sym (append-nil (queue_in es d))
queue-given note es (c ∷ cs) above have d =
    queue-given note (give_one note es c) cs (tail c cs above) (λ q e. still note es c q there (have q (later-among q c cs e))) d
    ∙ by_number (nat_eq c d) refl
  where
    there : is_some (box_in es c) ≡ true
    there = have c (first-among c cs)

    tail : (c : ℕ) (cs : List ℕ) → AreAbove c cs → Ascend cs
    tail c [] h = tt
    tail c (x ∷ xs) h = h.1

    by_number : (b : Bool) → nat_eq c d ≡ b → queue_in (give_one note es c) d ++ (if list_any (nat_eq d) cs then note ∷ [] else []) ≡ queue_in es d ++ (if nat_eq d c || list_any (nat_eq d) cs then note ∷ [] else [])
    by_number true e =
        let same : c ≡ d = grind (arith, nat_tests) in
        let back : nat_eq d c ≡ true = grind (arith, nat_tests) in
        let none : list_any (nat_eq d) cs ≡ false = ap (λ k. list_any (nat_eq k) cs) (sym same) ∙ absent c c cs (omega arith) above in
        let mine : queue_in (give_one note es c) d ≡ queue_in es d ++ note ∷ [] = ap (λ o. unwrap_or o []) (box-given note es c d there) ∙ ap (λ b. unwrap_or (if b then Some (queue_in es c ++ note ∷ []) else box_in es d) []) e ∙ ap (λ k. queue_in es k ++ note ∷ []) same in
        ap (λ b. queue_in (give_one note es c) d ++ (if b then note ∷ [] else [])) none ∙ append-nil (queue_in (give_one note es c) d) ∙ mine
        ∙ sym (ap (λ b. queue_in es d ++ (if b || list_any (nat_eq d) cs then note ∷ [] else [])) back)
    by_number false e =
        let back : nat_eq d c ≡ false = grind (arith, nat_tests) in
        let other : queue_in (give_one note es c) d ≡ queue_in es d = ap (λ o. unwrap_or o []) (box-given note es c d there) ∙ ap (λ b. unwrap_or (if b then Some (queue_in es c ++ note ∷ []) else box_in es d) []) e in
        ap (λ (l : List Note). l ++ (if list_any (nat_eq d) cs then note ∷ [] else [])) other
        ∙ sym (ap (λ b. queue_in es d ++ (if b || list_any (nat_eq d) cs then note ∷ [] else [])) back)
