-- The least fault of several lists.
use Rattle.std.proofs.Common.{◌≡◌, ℕ, zero, suc, ◌+◌, ◌<◌, List, [], ◌∷◌, ◌++◌, length, take, get_or, Bool, true, false, not, ◌&&◌, ◌||◌, ◌==◌, nat_lt, Option, Some, None, is_some, option_map, unwrap_or, map, if◌then◌else◌, refl, ◌∙◌, sym, ap, inl, inr, arith, append_assoc, append-nil}
use Rattle.std.specs.List.{flat_map, list_any}
use Rattle.std.proofs.lemmas.Bool.{cases_Bool, or_parts}
use Rattle.std.proofs.lemmas.Bool.Decides.{nat_tests}
use Rattle.std.proofs.lemmas.List.{take_more}
use Rattle.sal_module.specs.declared.fault.Found.{Found}
use Rattle.sal_module.specs.Faults.{least, better, is_before, number_of}
use Rattle.sal_typedefs.specs.declared.judgement.Judgement.{Judgement}
use Rattle.std.specs.List.{slice_get}
use Rattle.sal_typedefs.specs.declared.builtin.Builtin.{Builtin}
use Rattle.sal_typedefs.specs.Builtins.{type_of}
use Rattle.sal_typedefs.specs.Restrictions.{Base}
use Rattle.sal_typedefs.specs.Types.{Judged, is_faulty, nothing}
use Rattle.sal_typedefs.specs.Judgements.{merged, IsJudged, AreJudged, AllNumbers, AllPositions, base_by}
use Rattle.sal_typedefs.proofs.EntryLists.{least-two}

-- ---- which counts

-- module, place and number as three numbers
before3 : (a b c x y z : ℕ) → Bool
before3 a b c x y z = nat_lt a x || (a == x && (nat_lt b y || (b == y && nat_lt c z)))

abbrev picked : Bool → Found → Found → Option Found
picked b found best = if b then Some found else Some best

trans : (a b c x y z u v w : ℕ) → (nat_lt a x || (a == x && (nat_lt b y || (b == y && nat_lt c z)))) ≡ true
    → (nat_lt x u || (x == u && (nat_lt y v || (y == v && nat_lt z w)))) ≡ true → (nat_lt a u || (a == u && (nat_lt b v || (b == v && nat_lt c w)))) ≡ true
trans a b c x y z u v w h k = grind (arith, nat_tests)

-- and of what does not come before
untrans : (a b c x y z u v w : ℕ) → (nat_lt a x || (a == x && (nat_lt b y || (b == y && nat_lt c z)))) ≡ false
    → (nat_lt x u || (x == u && (nat_lt y v || (y == v && nat_lt z w)))) ≡ false → (nat_lt a u || (a == u && (nat_lt b v || (b == v && nat_lt c w)))) ≡ false
untrans a b c x y z u v w h k = grind (arith, nat_tests)

before-trans : (p q r : Found) → is_before p q ≡ true → is_before q r ≡ true → is_before p r ≡ true
before-trans p q r h k = trans p.module p.at (number_of p.cause) q.module q.at (number_of q.cause) r.module r.at (number_of r.cause) h k

before-untrans : (p q r : Found) → is_before p q ≡ false → is_before q r ≡ false → is_before p r ≡ false
before-untrans p q r h k = untrans p.module p.at (number_of p.cause) q.module q.at (number_of q.cause) r.module r.at (number_of r.cause) h k

-- the first, the second, the third
assoc : (x y z : Found) → better (better (Some x) y) z ≡ merged (Some x) (better (Some y) z)
assoc x y z = elim (cases_Bool (is_before y x)) [
  | inl yx ↦ elim (cases_Bool (is_before z y)) [
    | inl zy ↦ rw (yx, zy) (let zx = before-trans z y x zy yx in rw zx refl)
    | inr zy ↦ rw (yx, zy) (rw yx refl)
  ]
  | inr yx ↦ elim (cases_Bool (is_before z y)) [
    | inl zy ↦ rw (yx, zy) refl
    | inr zy ↦ let zx = before-untrans z y x zy yx in rw (yx, zy, zx) (rw yx refl)
  ]
]

assoc-merged : (x y : Found) (more : Option Found) → merged (better (Some x) y) more ≡ merged (Some x) (merged (Some y) more)
assoc-merged x y None = refl
assoc-merged x y (Some z) = assoc x y z

least-from : (x : Found) (xs : List Found) → least (Some x) xs ≡ merged (Some x) (least None xs)
least-from x [] = refl
least-from x (y ∷ xs) =
    elim (cases_Bool (is_before y x)) [
      | inl e ↦ (let here : better (Some x) y ≡ Some y = rw e refl in
          ap (λ b. least b xs) here ∙ least-from y xs ∙ sym (sym (assoc-merged x y (least None xs)) ∙ ap (λ b. merged b (least None xs)) here) ∙ ap (merged (Some x)) (sym (least-from y xs)))
      | inr e ↦ (let here : better (Some x) y ≡ Some x = rw e refl in
          ap (λ b. least b xs) here ∙ least-from x xs ∙ sym (sym (assoc-merged x y (least None xs)) ∙ ap (λ b. merged b (least None xs)) here) ∙ ap (merged (Some x)) (sym (least-from y xs)))
    ]

pub merge-least : (best : Option Found) (xs : List Found) → merged best (least None xs) ≡ least best xs
merge-least (Some x) xs = sym (least-from x xs)
merge-least None [] = refl
merge-least None (x ∷ xs) = none-merged (least (Some x) xs)
  where
    none-merged : (more : Option Found) → merged None more ≡ more
    none-merged None = refl
    none-merged (Some y) = refl

-- ---- none

pub least-some : (x : Found) (xs : List Found) → is_some (least (Some x) xs) ≡ true
least-some x [] = refl
least-some x (y ∷ xs) = elim (cases_Bool (is_before y x)) [ inl e ↦ rw e (least-some y xs) | inr e ↦ rw e (least-some x xs) ]

pub some-faulty : (xs : List Found) → is_some (least None xs) ≡ not (length xs == 0)
some-faulty [] = refl
some-faulty (x ∷ xs) = let more : (length (x ∷ xs) == 0) ≡ false = grind (arith, nat_tests) in least-some x xs ∙ rw more refl

-- ---- the statements below

abbrev pub all_faults : List Judged → List Found
all_faults judged = flat_map (λ (j : Judged). j.faults) judged

flat-last : (judged : List Judged) (j : Judged) → all_faults (judged ++ j ∷ []) ≡ all_faults judged ++ j.faults
flat-last [] j = append-nil j.faults
flat-last (k ∷ judged) j = ap (λ rest. k.faults ++ rest) (flat-last judged j) ∙ sym (append_assoc k.faults (all_faults judged) j.faults)

pub as-many : (ds : List Judgement) (judged : List Judged) → AreJudged ds judged → length ds ≡ length judged
as-many [] [] are = refl
as-many (d ∷ ds) (j ∷ judged) are = ap suc (as-many ds judged are.1)
as-many [] (j ∷ judged) are = absurd are
as-many (d ∷ ds) [] are = absurd are

nth-judged : (ds : List Judgement) (judged : List Judged) (i : ℕ) (d : Judgement) (e : Judged) → AreJudged ds judged → i < length ds → IsJudged (get_or ds i d) (get_or judged i e)
nth-judged [] judged i d e are h = absurd (omega arith)
nth-judged (x ∷ ds) (j ∷ judged) zero d e are h = are.0
nth-judged (x ∷ ds) (j ∷ judged) (suc i) d e are h = nth-judged ds judged i d e are.1 (omega arith)
nth-judged (x ∷ ds) [] i d e are h = absurd are

one-more : (ds : List Judgement) (judged : List Judged) (i : ℕ) (d : Judgement) → AreJudged ds judged → i < length ds → d ≡ get_or ds i d → (best : Option Found)
    → best ≡ least None (all_faults (take i judged)) → merged best d.fault ≡ least None (all_faults (take (i + 1) judged))
one-more ds [] i d are h is best so_far = absurd (omega (arith, as-many ds [] are))
one-more ds (j ∷ judged) i d are h is best so_far =
    let js = j ∷ judged in
    let lt : i < length js = omega (arith, as-many ds js are) in
    let one = get_or js i j in
    let fits : IsJudged (get_or ds i d) one = nth-judged ds js i d j are h in
    let fault : d.fault ≡ least None one.faults = ap (λ (x : Judgement). x.fault) is ∙ fits.fault in
    ap (merged best) fault ∙ merge-least best one.faults ∙ ap (λ b. least b one.faults) so_far ∙ least-two None (all_faults (take i js)) one.faults
    ∙ ap (least None) (sym (ap all_faults (take_more js i j lt) ∙ flat-last (take i js) one))

pub fault-more : (ds : List Judgement) (i : ℕ) (d : Judgement) (best next : Option Found) → i < length ds → d ≡ get_or ds i d
    → ((judged : List Judged) → AreJudged ds judged → best ≡ least None (all_faults (take i judged))) → next ≡ merged best d.fault
    → (judged : List Judged) → AreJudged ds judged → next ≡ least None (all_faults (take (i + 1) judged))
fault-more ds i d best next h is so_far put judged are = put ∙ one-more ds judged i d are h is best (so_far judged are)

faulty-two : (a b : List Found) → not (length (a ++ b) == 0) ≡ (not (length a == 0) || not (length b == 0))
faulty-two [] b = refl
faulty-two (x ∷ a) b =
    let m : (length (x ∷ (a ++ b)) == 0) ≡ false = grind (arith, nat_tests) in
    let n : (length (x ∷ a) == 0) ≡ false = grind (arith, nat_tests) in
    rw (m, n) refl

each-faulty : (js : List Judged) → not (length (all_faults js) == 0) ≡ list_any is_faulty js
each-faulty [] = refl
each-faulty (j ∷ js) = faulty-two j.faults (all_faults js) ∙ ap (λ b. not (length j.faults == 0) || b) (each-faulty js)

pub any-faulty : (judged : List Judged) → is_some (least None (all_faults judged)) ≡ list_any is_faulty judged
any-faulty judged = some-faulty (all_faults judged) ∙ each-faulty judged

none-some : (q : Option Found) → is_some q ≡ true → q ≡ None → ⊥
none-some None h e = cc
none-some (Some x) h e = cc

pub never-none : (best : Option Found) (xs : List Found) → is_some (least None xs) ≡ true → least best xs ≡ None → ⊥
never-none None xs some none = none-some (least None xs) some none
never-none (Some x) xs some none = none-some (least (Some x) xs) (least-some x xs) none

pub stays-some : (best : Option Found) (xs : List Found) → is_some best ≡ true → least best xs ≡ None → ⊥
stays-some None xs h none = cc
stays-some (Some x) xs h none = none-some (least (Some x) xs) (least-some x xs) none

-- ---- good statements below

pub good-fault : (j : Judged) → is_faulty j ≡ false → least None j.faults ≡ None
good-fault j e = go j.faults e
  where
    go : (xs : List Found) → not (length xs == 0) ≡ false → least None xs ≡ None
    go [] h = refl
    go (x ∷ xs) h = let more : (length (x ∷ xs) == 0) ≡ false = grind (arith, nat_tests) in let k = rw more at h in cc

pub good-types : (ds : List Judgement) (js : List Judged) → AreJudged ds js → list_any is_faulty js ≡ false → map (λ (d : Judgement). d.ty) ds ≡ map (λ (j : Judged). j.type) js
good-types [] [] are good = refl
good-types (d ∷ ds) (j ∷ js) are good =
    let parts = or_parts (is_faulty j) (list_any is_faulty js) good in
    let here : d.ty ≡ j.type = are.0.type (are.0.fault ∙ good-fault j parts.0) in
    ap (λ t. t ∷ map (λ (d : Judgement). d.ty) ds) here ∙ ap (λ ts. j.type ∷ ts) (good-types ds js are.1 parts.1)
good-types [] (j ∷ js) are good = absurd are
good-types (d ∷ ds) [] are good = absurd are

pub base-same : (b : Option Builtin) (ds : List Judgement) (js : List Judged) → AreJudged ds js → list_any is_faulty js ≡ false
    → base_by b ds ≡ (if is_some b then (let own : Base = record { type = unwrap_or (option_map type_of b) nothing.type; entries = []; itself = true } in own)
    else (let other : Base = record { type = (unwrap_or (slice_get js 0) nothing).type; entries = (unwrap_or (slice_get js 0) nothing).entries; itself = false } in other))
base-same (Some builtin) ds js are good = refl
base-same None [] [] are good = refl
base-same None (d ∷ ds) (j ∷ js) are good =
    let parts = or_parts (is_faulty j) (list_any is_faulty js) good in
    let none = are.0.fault ∙ good-fault j parts.0 in
    ap (λ t. record { type = t; entries = d.entries.items; itself = false }) (are.0.type none) ∙ ap (λ es. record { type = j.type; entries = es; itself = false }) (are.0.entries none)
base-same None [] (j ∷ js) are good = absurd are
base-same None (d ∷ ds) [] are good = absurd are

pub all-numbers : (ds : List Judgement) (js : List Judged) → AreJudged ds js → AllNumbers ds
all-numbers [] [] are = tt
all-numbers (d ∷ ds) (j ∷ js) are = (are.0.numbers, all-numbers ds js are.1)
all-numbers [] (j ∷ js) are = tt
all-numbers (d ∷ ds) [] are = absurd are

pub all-positions : (ds : List Judgement) (js : List Judged) → AreJudged ds js → AllPositions ds
all-positions [] [] are = tt
all-positions (d ∷ ds) (j ∷ js) are = (are.0.positions, all-positions ds js are.1)
all-positions [] (j ∷ js) are = tt
all-positions (d ∷ ds) [] are = absurd are
