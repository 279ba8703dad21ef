-- Where each statement has a place of its own, it is the one that is found there. Those in the order of a text have.
use Rattle.std.proofs.Common.{◌≡◌, ℕ, zero, suc, ◌<◌, ◌≤◌, Bool, true, false, not, ◌&&◌, ◌==◌, nat_eq, nat_lt, nat_le, IsTrue, List, [], ◌∷◌, ◌++◌, Option, Some, None, refl, sym, ap, ◌∙◌, inl, inr, arith}
use Rattle.std.specs.Prelude.{option_map, option_and_then, is_some, if◌then◌else◌}
use Rattle.std.specs.List.{list_all, list_any, flat_map, slice_get}
use Rattle.std.proofs.lemmas.Bool.{cases_Bool, or_right}
use Rattle.std.proofs.lemmas.Bool.Decides.{nat_tests}
use Rattle.sal_stmt.specs.declared.stmt.Stmt.{Stmt, out-Stmt}
use Rattle.sal_module.specs.Modules.{stmt_at}
use Rattle.sal_module.specs.Places.{find_first, find_at, start_or, all_before, is_in_order}
use Rattle.sal_module.specs.Statements.{subs_of}
use Rattle.sal_module.proofs.Order.{order-within}
use Rattle.sal_schema.specs.Valid.{all_differ}
use Rattle.sal_schema.proofs.Conjuncts.{and_first, and_second, or_first, or_second}
use Rattle.sal_typedefs.specs.Scopes.{Site, within, top, place_of, way_to, site_at}
use Rattle.sal_build.specs.Readable.{places}
use Rattle.sal_build.proofs.Distinct.{true-is, false-is}
use Rattle.sal_build.proofs.Quiet.{both, all-joined}

-- ---- numbers that differ

any-left : (p : ℕ → Bool) (xs ys : List ℕ) → list_any p (xs ++ ys) ≡ false → (list_any p xs ≡ false) × (list_any p ys ≡ false)
any-left p [] ys e = (refl, e)
any-left p (x ∷ xs) ys e = let (one, two) = any-left p xs ys (or_second (p x) (list_any p (xs ++ ys)) e) in (rw (or_first (p x) (list_any p (xs ++ ys)) e) one, two)

any-neither : (p : ℕ → Bool) (xs ys : List ℕ) → list_any p xs ≡ false → list_any p ys ≡ false → list_any p (xs ++ ys) ≡ false
any-neither p [] ys h k = k
any-neither p (x ∷ xs) ys h k = rw (or_first (p x) (list_any p xs) h) (any-neither p xs ys (or_second (p x) (list_any p xs) h) k)

any-front : (p : ℕ → Bool) (xs ys : List ℕ) → list_any p xs ≡ true → list_any p (xs ++ ys) ≡ true
any-front p [] ys h = let no : false ≡ true = h in cc
any-front p (x ∷ xs) ys h = elim (cases_Bool (p x)) [ inl t ↦ rw t refl | inr f ↦ rw f (any-front p xs ys (rw f at h)) ]

any-back : (p : ℕ → Bool) (xs ys : List ℕ) → list_any p ys ≡ true → list_any p (xs ++ ys) ≡ true
any-back p [] ys h = h
any-back p (x ∷ xs) ys h = or_right (p x) (list_any p (xs ++ ys)) (any-back p xs ys h)

-- the first is not among those after it
fresh : (x : ℕ) (xs : List ℕ) → IsTrue (all_differ nat_eq (x ∷ xs)) → list_any (nat_eq x) xs ≡ false
fresh x xs h = true-is (list_any (nat_eq x) xs) (and_first (not (list_any (nat_eq x) xs)) (all_differ nat_eq xs) h)

pub differ-tail : (x : ℕ) (xs : List ℕ) → IsTrue (all_differ nat_eq (x ∷ xs)) → IsTrue (all_differ nat_eq xs)
differ-tail x xs h = and_second (not (list_any (nat_eq x) xs)) (all_differ nat_eq xs) h

pub differ-parts : (xs ys : List ℕ) → IsTrue (all_differ nat_eq (xs ++ ys)) → IsTrue (all_differ nat_eq xs) × IsTrue (all_differ nat_eq ys)
differ-parts [] ys h = (refl, h)
differ-parts (x ∷ xs) ys h =
    let (one, two) = differ-parts xs ys (differ-tail x (xs ++ ys) h) in
    let (here, there) = any-left (nat_eq x) xs ys (fresh x (xs ++ ys) h) in
    (both (not (list_any (nat_eq x) xs)) (all_differ nat_eq xs) (false-is (list_any (nat_eq x) xs) here) one, two)

-- none is in both parts
apart : (a : ℕ) (xs ys : List ℕ) → IsTrue (all_differ nat_eq (xs ++ ys)) → list_any (nat_eq a) xs ≡ true → list_any (nat_eq a) ys ≡ true → ⊥
apart a [] ys h one two = let no : false ≡ true = one in cc
apart a (x ∷ xs) ys h one two = elim (cases_Bool (nat_eq a x)) [
  | inl t ↦
      let same : a ≡ x = grind (arith, nat_tests) in
      let (here, there) = any-left (nat_eq x) xs ys (fresh x (xs ++ ys) h) in
      let no : true ≡ false = sym two ∙ ap (λ n. list_any (nat_eq n) ys) same ∙ there in cc
  | inr f ↦ apart a xs ys (differ-tail x (xs ++ ys) h) (rw f at one) two
]

-- ---- the statement at a place

pub way-any : (levels at : ℕ) (site : Site) → (place_of site == at) ≡ true → way_to levels at site ≡ Some site
unfolding way_to
way-any zero at site e = rw e refl
way-any (suc levels) at site e = rw e refl

way-suc : (levels at : ℕ) (site : Site) → way_to (suc levels) at site ≡ (if place_of site == at then Some site else find_first (λ sub. way_to levels at (within site sub)) (subs_of site.stmt))
unfolding way_to
way-suc levels at site = refl

-- the statements are those that are found by their places alone
same-some : (o : Option Site) → is_some (option_map (λ (s : Site). s.stmt) o) ≡ is_some o
same-some None = refl
same-some (Some s) = refl

first-way : (f : Stmt → Option Stmt) (g : Stmt → Option Site) → ((sub : Stmt) → f sub ≡ option_map (λ (s : Site). s.stmt) (g sub)) → (subs : List Stmt)
    → find_first f subs ≡ option_map (λ (s : Site). s.stmt) (find_first g subs)
first-way f g each [] = refl
first-way f g each (sub ∷ subs) =
    let alike : is_some (f sub) ≡ is_some (g sub) = ap is_some (each sub) ∙ same-some (g sub) in
    elim (cases_Bool (is_some (g sub))) [
      | inl t ↦ (let found : is_some (f sub) ≡ true = alike ∙ t in rw (found, t) (each sub))
      | inr f_none ↦ (let none : is_some (f sub) ≡ false = alike ∙ f_none in rw (none, f_none) (first-way f g each subs))
    ]

find-way : (levels at : ℕ) (site : Site) → find_at levels at site.stmt ≡ option_map (λ (s : Site). s.stmt) (way_to levels at site)
unfolding way_to find_at
find-way zero at site = elim (cases_Bool (place_of site == at)) [ inl t ↦ rw t refl | inr f ↦ rw f refl ]
find-way (suc levels) at site = elim (cases_Bool (place_of site == at)) [
  | inl t ↦ rw t refl
  | inr f ↦ rw f (first-way (find_at levels at) (λ sub. way_to levels at (within site sub)) (λ sub. find-way levels at (within site sub)) (subs_of site.stmt))
]

pub site-stmt : (stmts : List Stmt) (m at : ℕ) (s : Site) → site_at stmts m at ≡ Some s → stmt_at stmts m at ≡ Some s.stmt
site-stmt stmts m at s e =
    elim (slice_get stmts m) as (λ o. option_and_then (λ stmt. way_to 64 at (top m stmt)) o ≡ Some s → option_and_then (find_at 64 at) o ≡ Some s.stmt) [
      | None ↦ λ none. let no : ◌≡◌ {A = Option Site} None (Some s) = none in cc
      | Some stmt ↦ λ found. find-way 64 at (top m stmt) ∙ ap (option_map (λ (s : Site). s.stmt)) found
    ] e

-- ---- its place is one of those below

among-subs : (levels at : ℕ) (site s : Site) → ((sub : Stmt) → way_to levels at (within site sub) ≡ Some s → list_any (nat_eq at) (places levels sub) ≡ true) → (subs : List Stmt)
    → find_first (λ sub. way_to levels at (within site sub)) subs ≡ Some s → list_any (nat_eq at) (flat_map (places levels) subs) ≡ true
among-subs levels at site s each [] e = let no : ◌≡◌ {A = Option Site} None (Some s) = e in cc
among-subs levels at site s each (sub ∷ subs) e = elim (cases_Bool (is_some (way_to levels at (within site sub)))) [
  | inl t ↦ any-front (nat_eq at) (places levels sub) (flat_map (places levels) subs) (each sub (rw t at e))
  | inr f ↦ any-back (nat_eq at) (places levels sub) (flat_map (places levels) subs) (among-subs levels at site s each subs (rw f at e))
]

among-places : (levels at : ℕ) (site s : Site) → way_to levels at site ≡ Some s → list_any (nat_eq at) (places levels site.stmt) ≡ true
unfolding way_to places
among-places zero at site s e = elim (cases_Bool (place_of site == at)) [
  | inl t ↦ (let is : nat_eq at (out-Stmt site.stmt).at ≡ true = grind (arith, nat_tests) in rw is refl)
  | inr f ↦ let no = rw f at e in cc
]
among-places (suc levels) at site s e = elim (cases_Bool (place_of site == at)) [
  | inl t ↦ (let is : nat_eq at (out-Stmt site.stmt).at ≡ true = grind (arith, nat_tests) in rw is refl)
  | inr f ↦
      let more = rw f at e in
      or_right (nat_eq at (out-Stmt site.stmt).at) (list_any (nat_eq at) (flat_map (places levels) (subs_of site.stmt)))
      (among-subs levels at site s (λ sub. among-places levels at (within site sub) s) (subs_of site.stmt) more)
]

-- ---- different places

-- the result with one more statement before
pub way-later : (levels at : ℕ) (site s : Site) (sub : Stmt) (subs : List Stmt) → IsTrue (all_differ nat_eq (flat_map (places levels) (sub ∷ subs)))
    → find_first (λ sub. way_to levels at (within site sub)) subs ≡ Some s → find_first (λ sub. way_to levels at (within site sub)) (sub ∷ subs) ≡ Some s
way-later levels at site s sub subs differ e =
    let there = among-subs levels at site s (λ sub. among-places levels at (within site sub) s) subs e in
    elim (way_to levels at (within site sub)) as (λ o. way_to levels at (within site sub) ≡ o → (if is_some o then o else find_first (λ sub. way_to levels at (within site sub)) subs) ≡ Some s) [
      | None ↦ λ none. e
      | Some t ↦ λ found. absurd (apart at (places levels sub) (flat_map (places levels) subs) differ (among-places levels at (within site sub) t found) there)
    ] refl

-- and inside of a statement
pub way-inside : (levels at : ℕ) (site s : Site) → IsTrue (all_differ nat_eq ((out-Stmt site.stmt).at ∷ flat_map (places levels) (subs_of site.stmt)))
    → find_first (λ sub. way_to levels at (within site sub)) (subs_of site.stmt) ≡ Some s → way_to (suc levels) at site ≡ Some s
way-inside levels at site s differ e = elim (cases_Bool (place_of site == at)) [
  | inl t ↦
      let is : at ≡ (out-Stmt site.stmt).at = grind (arith, nat_tests) in
      let there = among-subs levels at site s (λ sub. among-places levels at (within site sub) s) (subs_of site.stmt) e in
      let no : true ≡ false = sym there ∙ ap (λ n. list_any (nat_eq n) (flat_map (places levels) (subs_of site.stmt))) is ∙ fresh (out-Stmt site.stmt).at (flat_map (places levels) (subs_of site.stmt)) differ in cc
  | inr f ↦ way-suc levels at site ∙ rw f e
]

-- ---- in the order of a text

abbrev lie : ℕ → ℕ → List ℕ → Bool
lie low high ps = list_all (λ p. nat_le low p && nat_lt p high) ps

wider : (lower low high higher : ℕ) → lower ≤ low → high ≤ higher → (ps : List ℕ) → IsTrue (lie low high ps) → IsTrue (lie lower higher ps)
wider lower low high higher h k [] all = refl
wider lower low high higher h k (p ∷ ps) all =
    let one = and_first (nat_le low p && nat_lt p high) (lie low high ps) all in
    let begins = and_first (nat_le low p) (nat_lt p high) one in
    let ends = and_second (nat_le low p) (nat_lt p high) one in
    let here : IsTrue (nat_le lower p) = grind (arith, nat_tests) in
    let there : IsTrue (nat_lt p higher) = grind (arith, nat_tests) in
    both (nat_le lower p && nat_lt p higher) (lie lower higher ps) (both (nat_le lower p) (nat_lt p higher) here there)
    (wider lower low high higher h k ps (and_second (nat_le low p && nat_lt p high) (lie low high ps) all))

none-before : (x low high : ℕ) → x < low → (ps : List ℕ) → IsTrue (lie low high ps) → list_any (nat_eq x) ps ≡ false
none-before x low high h [] all = refl
none-before x low high h (p ∷ ps) all =
    let begins = and_first (nat_le low p) (nat_lt p high) (and_first (nat_le low p && nat_lt p high) (lie low high ps) all) in
    let other : nat_eq x p ≡ false = grind (arith, nat_tests) in
    rw other (none-before x low high h ps (and_second (nat_le low p && nat_lt p high) (lie low high ps) all))

differ-joined : (low mid high : ℕ) (xs ys : List ℕ) → IsTrue (lie low mid xs) → IsTrue (lie mid high ys) → IsTrue (all_differ nat_eq xs) → IsTrue (all_differ nat_eq ys) → IsTrue (all_differ nat_eq (xs ++ ys))
differ-joined low mid high [] ys all rest one two = two
differ-joined low mid high (x ∷ xs) ys all rest one two =
    let ends = and_second (nat_le low x) (nat_lt x mid) (and_first (nat_le low x && nat_lt x mid) (lie low mid xs) all) in
    let early : x < mid = grind (arith, nat_tests) in
    let none = any-neither (nat_eq x) xs ys (fresh x xs one) (none-before x mid high early ys rest) in
    both (not (list_any (nat_eq x) (xs ++ ys))) (all_differ nat_eq (xs ++ ys)) (false-is (list_any (nat_eq x) (xs ++ ys)) none)
    (differ-joined low mid high xs ys (and_second (nat_le low x && nat_lt x mid) (lie low mid xs) all) rest (differ-tail x xs one) two)

start-low : (levels high : ℕ) (stmts : List Stmt) → all_before (is_in_order levels) high stmts ≡ true → start_or high stmts ≤ high
start-low levels high [] order = omega arith
start-low levels high (stmt ∷ stmts) order =
    let one = and_first (is_in_order levels (start_or high stmts) stmt) (all_before (is_in_order levels) high stmts) order in
    let more = and_second (is_in_order levels (start_or high stmts) stmt) (all_before (is_in_order levels) high stmts) order in
    omega (arith, order-within levels (start_or high stmts) stmt one, start-low levels high stmts more)

subs-differ : (levels : ℕ)
    → ((high : ℕ) (stmt : Stmt) → is_in_order levels high stmt ≡ true → IsTrue (all_differ nat_eq (places levels stmt)) × IsTrue (lie (out-Stmt stmt).at high (places levels stmt)))
    → (high : ℕ) (stmts : List Stmt) → all_before (is_in_order levels) high stmts ≡ true
    → IsTrue (all_differ nat_eq (flat_map (places levels) stmts)) × IsTrue (lie (start_or high stmts) high (flat_map (places levels) stmts))
subs-differ levels each high [] order = (refl, refl)
subs-differ levels each high (stmt ∷ stmts) order =
    let next = start_or high stmts in
    let one = and_first (is_in_order levels next stmt) (all_before (is_in_order levels) high stmts) order in
    let more = and_second (is_in_order levels next stmt) (all_before (is_in_order levels) high stmts) order in
    let (here, inside) = each next stmt one in
    let (rest, behind) = subs-differ levels each high stmts more in
    let before = order-within levels next stmt one in
    let at = (out-Stmt stmt).at in (
      differ-joined at next high (places levels stmt) (flat_map (places levels) stmts) inside behind here rest,
      all-joined (λ p. nat_le at p && nat_lt p high) (places levels stmt) (flat_map (places levels) stmts) (wider at at next high (omega arith) (start-low levels high stmts more) (places levels stmt) inside)
          (wider at next high high (omega (arith, before)) (omega arith) (flat_map (places levels) stmts) behind),
    )

order-suc : (levels high : ℕ) (stmt : Stmt) → is_in_order (suc levels) high stmt ≡ (nat_lt (out-Stmt stmt).at (start_or high (subs_of stmt)) && all_before (is_in_order levels) high (subs_of stmt))
unfolding is_in_order
order-suc levels high stmt = refl

pub order-differs : (levels high : ℕ) (stmt : Stmt) → is_in_order levels high stmt ≡ true → IsTrue (all_differ nat_eq (places levels stmt)) × IsTrue (lie (out-Stmt stmt).at high (places levels stmt))
unfolding places
order-differs zero high stmt order =
    let low = order-within 0 high stmt order in
    let at = (out-Stmt stmt).at in
    let here : IsTrue (nat_le at at) = grind (arith, nat_tests) in
    let there : IsTrue (nat_lt at high) = grind (arith, nat_tests) in
    (refl, both (nat_le at at && nat_lt at high) true (both (nat_le at at) (nat_lt at high) here there) refl)
order-differs (suc levels) high stmt order =
    let at = (out-Stmt stmt).at in
    let subs = subs_of stmt in
    let start = start_or high subs in
    let parts : (nat_lt at start && all_before (is_in_order levels) high subs) ≡ true = sym (order-suc levels high stmt) ∙ order in
    let first = and_first (nat_lt at start) (all_before (is_in_order levels) high subs) parts in
    let before : at < start = grind (arith, nat_tests) in
    let (rest, behind) = subs-differ levels (order-differs levels) high subs (and_second (nat_lt at start) (all_before (is_in_order levels) high subs) parts) in
    let low = order-within (suc levels) high stmt order in
    let here : IsTrue (nat_le at at) = grind (arith, nat_tests) in
    let there : IsTrue (nat_lt at high) = grind (arith, nat_tests) in (
      both (not (list_any (nat_eq at) (flat_map (places levels) subs))) (all_differ nat_eq (flat_map (places levels) subs))
          (false-is (list_any (nat_eq at) (flat_map (places levels) subs)) (none-before at start high before (flat_map (places levels) subs) behind)) rest,
      both (nat_le at at && nat_lt at high) (lie at high (flat_map (places levels) subs)) (both (nat_le at at) (nat_lt at high) here there)
          (wider at start high high (omega (arith, before)) (omega arith) (flat_map (places levels) subs) behind),
    )
