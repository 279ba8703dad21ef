-- Statements in the order of the text: where a statement with a given offset can be.
use Rattle.std.proofs.Common.{◌≡◌, ℕ, zero, suc, ◌+◌, ◌-◌, ◌<◌, ◌≤◌, Bool, true, false, ◌&&◌, ◌/◌, ◌==◌, nat_lt, nat_le, List, [], ◌∷◌, ◌++◌, length, take, drop, get_or, Option, Some, None, is_some, if◌then◌else◌, refl, sym, ap, ◌∙◌, inl, inr, arith, length-drop}
use Rattle.std.proofs.lemmas.Bool.{cases_Bool, and_parts}
use Rattle.std.proofs.lemmas.Bool.Decides.{nat_tests}
use Rattle.std.proofs.lemmas.List.{drop_more, take-append-drop}
use Rattle.sal_stmt.specs.declared.stmt.Stmt.{Stmt, out-Stmt}
use Rattle.sal_module.specs.Statements.{subs_of}
use Rattle.sal_module.specs.Places.{find_first, find_at, start_or, half_of, all_before, is_in_order}

-- ---- one turn

pub find_at-zero : (at : ℕ) (stmt : Stmt) → find_at 0 at stmt ≡ (if (out-Stmt stmt).at == at then Some stmt else None)
unfolding find_at
find_at-zero at stmt = refl

find_at-suc : (levels at : ℕ) (stmt : Stmt) → find_at (suc levels) at stmt ≡ (if (out-Stmt stmt).at == at then Some stmt else find_first (find_at levels at) (subs_of stmt))
unfolding find_at
find_at-suc levels at stmt = refl

pub find_at-more : (levels at : ℕ) (stmt : Stmt) → 0 < levels → find_at levels at stmt ≡ (if (out-Stmt stmt).at == at then Some stmt else find_first (find_at (levels - 1) at) (subs_of stmt))
find_at-more zero at stmt h = absurd (omega arith)
find_at-more (suc levels) at stmt h = let less : suc levels - 1 ≡ levels = omega arith in rw less (find_at-suc levels at stmt)

pub find_at-any : (levels at : ℕ) (stmt : Stmt) → ((out-Stmt stmt).at == at) ≡ true → find_at levels at stmt ≡ Some stmt
find_at-any zero at stmt e = find_at-zero at stmt ∙ rw e refl
find_at-any (suc levels) at stmt e = find_at-suc levels at stmt ∙ rw e refl

pub find_first-at : {Y : Type 0} (f : Stmt → Option Y) (stmts : List Stmt) (i : ℕ) (d : Stmt) → i < length stmts
    → find_first f (drop i stmts) ≡ (if is_some (f (get_or stmts i d)) then f (get_or stmts i d) else find_first f (drop (i + 1) stmts))
find_first-at f stmts i d h = rw (drop_more stmts i d h) refl

pub is_in_order-zero : (high : ℕ) (stmt : Stmt) → is_in_order 0 high stmt ≡ nat_lt (out-Stmt stmt).at high
unfolding is_in_order
is_in_order-zero high stmt = refl

is_in_order-suc : (levels high : ℕ) (stmt : Stmt) → is_in_order (suc levels) high stmt ≡ (nat_lt (out-Stmt stmt).at (start_or high (subs_of stmt)) && all_before (is_in_order levels) high (subs_of stmt))
unfolding is_in_order
is_in_order-suc levels high stmt = refl

pub is_in_order-more : (levels high : ℕ) (stmt : Stmt) → 0 < levels → is_in_order levels high stmt ≡ (nat_lt (out-Stmt stmt).at (start_or high (subs_of stmt)) && all_before (is_in_order (levels - 1)) high (subs_of stmt))
is_in_order-more zero high stmt h = absurd (omega arith)
is_in_order-more (suc levels) high stmt h = let less : suc levels - 1 ≡ levels = omega arith in rw less (is_in_order-suc levels high stmt)

-- ---- ordered statements are before their end

module _ (test : ℕ → Stmt → Bool) (within : (high : ℕ) (stmt : Stmt) → test high stmt ≡ true → (out-Stmt stmt).at < high) where
  start-within : (high : ℕ) (stmts : List Stmt) → all_before test high stmts ≡ true → start_or high stmts ≤ high
  start-within high [] h = omega arith
  start-within high (stmt ∷ stmts) h =
      let (one, more) = and_parts (test (start_or high stmts) stmt) (all_before test high stmts) h in
      omega (arith, within (start_or high stmts) stmt one, start-within high stmts more)

pub order-within : (levels high : ℕ) (stmt : Stmt) → is_in_order levels high stmt ≡ true → (out-Stmt stmt).at < high
order-within zero high stmt h = grind (arith, nat_tests, is_in_order-zero high stmt)
order-within (suc levels) high stmt h =
    let (here, below) = and_parts (nat_lt (out-Stmt stmt).at (start_or high (subs_of stmt))) (all_before (is_in_order levels) high (subs_of stmt)) (sym (is_in_order-suc levels high stmt) ∙ h) in
    let end = start-within (is_in_order levels) (order-within levels) high (subs_of stmt) below in
    grind (arith, nat_tests)

-- ---- parts

pub all_before-drop : (test : ℕ → Stmt → Bool) (high : ℕ) (stmts : List Stmt) (k : ℕ) → all_before test high stmts ≡ true → all_before test high (drop k stmts) ≡ true
all_before-drop test high stmts zero h = h
all_before-drop test high [] (suc k) h = refl
all_before-drop test high (stmt ∷ stmts) (suc k) h = all_before-drop test high stmts k (and_parts (test (start_or high stmts) stmt) (all_before test high stmts) h).1

start-take : (high : ℕ) (stmts : List Stmt) (k : ℕ) → start_or (start_or high (drop k stmts)) (take k stmts) ≡ start_or high stmts
start-take high stmts zero = refl
start-take high [] (suc k) = refl
start-take high (stmt ∷ stmts) (suc k) = refl

pub all_before-take : (test : ℕ → Stmt → Bool) (high : ℕ) (stmts : List Stmt) (k : ℕ) → all_before test high stmts ≡ true → all_before test (start_or high (drop k stmts)) (take k stmts) ≡ true
all_before-take test high stmts zero h = refl
all_before-take test high [] (suc k) h = refl
all_before-take test high (stmt ∷ stmts) (suc k) h =
    let (one, more) = and_parts (test (start_or high stmts) stmt) (all_before test high stmts) h in
    rw (start-take high stmts k, one) (all_before-take test high stmts k more)

pub find_first-append : {X Y : Type 0} (f : X → Option Y) (xs ys : List X) → find_first f (xs ++ ys) ≡ (if is_some (find_first f xs) then find_first f xs else find_first f ys)
find_first-append f [] ys = refl
find_first-append f (x ∷ xs) ys = elim (cases_Bool (is_some (f x))) [ inl e ↦ rw (e, e) refl | inr e ↦ rw e (find_first-append f xs ys) ]

-- ---- a place outside of what is in order

and-parts : (levels high : ℕ) (stmt : Stmt) → is_in_order (suc levels) high stmt ≡ true
    → ((out-Stmt stmt).at < start_or high (subs_of stmt)) × (all_before (is_in_order levels) high (subs_of stmt) ≡ true)
and-parts levels high stmt h =
    let parts = and_parts (nat_lt (out-Stmt stmt).at (start_or high (subs_of stmt))) (all_before (is_in_order levels) high (subs_of stmt)) (sym (is_in_order-suc levels high stmt) ∙ h) in
    (grind (arith, nat_tests, parts.0), parts.1)

module _ (levels at : ℕ) (outside : (high : ℕ) (stmt : Stmt) → is_in_order levels high stmt ≡ true → at < (out-Stmt stmt).at → find_at levels at stmt ≡ None) where
  none-below : (high : ℕ) (stmts : List Stmt) → all_before (is_in_order levels) high stmts ≡ true → at < start_or high stmts → find_first (find_at levels at) stmts ≡ None
  none-below high [] h out = refl
  none-below high (stmt ∷ stmts) h out =
      let (one, more) = and_parts (is_in_order levels (start_or high stmts) stmt) (all_before (is_in_order levels) high stmts) h in
      let next = order-within levels (start_or high stmts) stmt one in
      rw (outside (start_or high stmts) stmt one out) (none-below high stmts more (omega arith))

find_at-below : (levels at high : ℕ) (stmt : Stmt) → is_in_order levels high stmt ≡ true → at < (out-Stmt stmt).at → find_at levels at stmt ≡ None
find_at-below zero at high stmt h out = let other : ((out-Stmt stmt).at == at) ≡ false = grind (arith, nat_tests) in find_at-zero at stmt ∙ rw other refl
find_at-below (suc levels) at high stmt h out =
    let other : ((out-Stmt stmt).at == at) ≡ false = grind (arith, nat_tests) in
    let (here, below) = and-parts levels high stmt h in
    find_at-suc levels at stmt ∙ rw other (none-below levels at (find_at-below levels at) high (subs_of stmt) below (omega arith))

module _ (levels at : ℕ) (outside : (high : ℕ) (stmt : Stmt) → is_in_order levels high stmt ≡ true → high ≤ at → find_at levels at stmt ≡ None) where
  none-above : (high : ℕ) (stmts : List Stmt) → all_before (is_in_order levels) high stmts ≡ true → high ≤ at → find_first (find_at levels at) stmts ≡ None
  none-above high [] h out = refl
  none-above high (stmt ∷ stmts) h out =
      let (one, more) = and_parts (is_in_order levels (start_or high stmts) stmt) (all_before (is_in_order levels) high stmts) h in
      let end = start-within (is_in_order levels) (order-within levels) high stmts more in
      rw (outside (start_or high stmts) stmt one (omega arith)) (none-above high stmts more out)

find_at-above : (levels at high : ℕ) (stmt : Stmt) → is_in_order levels high stmt ≡ true → high ≤ at → find_at levels at stmt ≡ None
find_at-above zero at high stmt h out =
    let within = order-within zero high stmt h in
    let other : ((out-Stmt stmt).at == at) ≡ false = grind (arith, nat_tests) in
    find_at-zero at stmt ∙ rw other refl
find_at-above (suc levels) at high stmt h out =
    let within = order-within (suc levels) high stmt h in
    let other : ((out-Stmt stmt).at == at) ≡ false = grind (arith, nat_tests) in
    let (here, below) = and-parts levels high stmt h in
    find_at-suc levels at stmt ∙ rw other (none-above levels at (find_at-above levels at) high (subs_of stmt) below out)

-- ---- halves

module _ (levels at high : ℕ) (part : List Stmt) (k : ℕ) (order : all_before (is_in_order levels) high part ≡ true) where
  whole : find_first (find_at levels at) part ≡ (if is_some (find_first (find_at levels at) (take k part)) then find_first (find_at levels at) (take k part) else find_first (find_at levels at) (drop k part))
  whole = ap (find_first (find_at levels at)) (sym (take-append-drop k part)) ∙ find_first-append (find_at levels at) (take k part) (drop k part)

  pub find_first-right : start_or high (drop k part) ≤ at → find_first (find_at levels at) part ≡ find_first (find_at levels at) (drop k part)
  find_first-right h =
      let none = none-above levels at (find_at-above levels at) (start_or high (drop k part)) (take k part) (all_before-take (is_in_order levels) high part k order) h in
      whole ∙ rw none refl

  pub find_first-left : at < start_or high (drop k part) → find_first (find_at levels at) part ≡ find_first (find_at levels at) (take k part)
  find_first-left h =
      let none = none-below levels at (find_at-below levels at) high (drop k part) (all_before-drop (is_in_order levels) high part k order) h in
      whole ∙ rw none (elim (find_first (find_at levels at) (take k part)) as (λ r. (if is_some r then r else None) ≡ r) [ Some x ↦ refl | None ↦ refl ])

pub start_or-drop : (high : ℕ) (stmts : List Stmt) (k : ℕ) (d : Stmt) → k < length stmts → start_or high (drop k stmts) ≡ (out-Stmt (get_or stmts k d)).at
start_or-drop high stmts k d h = rw (drop_more stmts k d h) refl

start_or-some : (high other : ℕ) (stmts : List Stmt) → 0 < length stmts → start_or high stmts ≡ start_or other stmts
start_or-some high other [] h = absurd (omega arith)
start_or-some high other (stmt ∷ stmts) h = refl

pub half-at : (levels at high : ℕ) (part : List Stmt) → all_before (is_in_order levels) high part ≡ true → 1 < length part
    → (find_first (find_at levels at) part ≡ find_first (find_at levels at) (half_of at part)) × ((end : ℕ) × (all_before (is_in_order levels) end (half_of at part) ≡ true))
half-at levels at high part order many =
    let k = length part / 2 in
    let right = drop k part in
    let some : 0 < length right = omega (arith, length-drop k part) in
    let start = start_or-some 4294967296 high right some in
    elim (cases_Bool (nat_le (start_or 4294967296 right) at)) [
      | inl e ↦
          let low : start_or high right ≤ at = grind (arith, nat_tests) in
          rw e (find_first-right levels at high part k order low, (high, all_before-drop (is_in_order levels) high part k order))
      | inr e ↦
          let low : at < start_or high right = grind (arith, nat_tests) in
          rw e (find_first-left levels at high part k order low, (start_or high right, all_before-take (is_in_order levels) high part k order))
    ]

-- ---- one statement

pub order-at : (levels high : ℕ) (stmts : List Stmt) (i : ℕ) (d : Stmt) → i < length stmts
    → all_before (is_in_order levels) high (drop i stmts) ≡ (is_in_order levels (start_or high (drop (i + 1) stmts)) (get_or stmts i d) && all_before (is_in_order levels) high (drop (i + 1) stmts))
order-at levels high stmts i d h = rw (drop_more stmts i d h) refl

pub find_first-one : {Y : Type 0} (f : Stmt → Option Y) (stmts : List Stmt) (d : Stmt) → 0 < length stmts → length stmts ≤ 1 → find_first f stmts ≡ f (get_or stmts 0 d)
find_first-one f [] d some one = absurd (omega arith)
find_first-one f (stmt ∷ []) d some one = elim (f stmt) as (λ r. (if is_some r then r else None) ≡ r) [ Some x ↦ refl | None ↦ refl ]
find_first-one f (stmt ∷ next ∷ stmts) d some one = absurd (omega arith)

pub order-one : (test : ℕ → Stmt → Bool) (high : ℕ) (stmts : List Stmt) (d : Stmt) → 0 < length stmts → length stmts ≤ 1 → all_before test high stmts ≡ true → test high (get_or stmts 0 d) ≡ true
order-one test high [] d some one h = absurd (omega arith)
order-one test high (stmt ∷ []) d some one h = (and_parts (test high stmt) true h).0
order-one test high (stmt ∷ next ∷ stmts) d some one h = absurd (omega arith)

pub order-below : (levels high : ℕ) (stmt : Stmt) → 0 < levels → is_in_order levels high stmt ≡ true → all_before (is_in_order (levels - 1)) high (subs_of stmt) ≡ true
order-below levels high stmt some h =
    (and_parts (nat_lt (out-Stmt stmt).at (start_or high (subs_of stmt))) (all_before (is_in_order (levels - 1)) high (subs_of stmt)) (sym (is_in_order-more levels high stmt some) ∙ h)).1
