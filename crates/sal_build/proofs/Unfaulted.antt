-- Type statements without faults have the substatements that they need, and no others.
use Rattle.std.proofs.Common.{◌≡◌, ℕ, Bool, true, false, not, ◌&&◌, ◌==◌, nat_lt, nat_le, IsTrue, List, [], ◌∷◌, ◌++◌, map, length, refl, sym, ◌∙◌, inl, inr, arith}
use Rattle.std.specs.Prelude.{find, option_map, unwrap_or, if◌then◌else◌}
use Rattle.std.specs.List.{list_all, list_any, flat_map}
use Rattle.std.proofs.lemmas.Bool.{cases_Bool}
use Rattle.std.proofs.lemmas.Bool.Decides.{nat_tests}
use Rattle.sal_stmt.specs.declared.stmt.Stmt.{Stmt}
use Rattle.sal_module.specs.declared.keyword.Keyword.{Keyword}
use Rattle.sal_module.specs.declared.keyword.Keyword.TheVariants as word
use Rattle.sal_module.specs.declared.fault.Cause.TheVariants.{BadRestriction}
use Rattle.sal_module.specs.Arguments.{decimal, is_whole}
use Rattle.sal_module.specs.Profile.{at_stmt}
use Rattle.sal_module.specs.Statements.{is_named, subs_of, argument_of, value_of}
use Rattle.sal_schema.proofs.Conjuncts.{and_first, and_second}
use Rattle.sal_typedefs.specs.Restrictions.{Base, is_decimal, digits_of, are_fraction_digits, digit_fault, digit_faults, absent_faults, sub_faults, list_faults, layer_of, restriction_faults, pattern_faults}
use Rattle.sal_typedefs.specs.Scopes.{Site}
use Rattle.sal_typedefs.specs.Types.{Judged, is_faulty, own_faults, judged}
use Rattle.sal_build.proofs.Quiet.{both, front-nil}

none-left : {X : Type 0} (xs : List X) → (length xs == 0) ≡ true → xs ≡ []
none-left [] e = refl
none-left (x ∷ xs) e = let more : (length (x ∷ xs) == 0) ≡ false = grind (arith, nat_tests) in absurd (let no : true ≡ false = sym e ∙ more in cc)

some-left : {X : Type 0} (xs : List X) → xs ≡ [] → not (length xs == 0) ≡ true → ⊥
some-left [] e h = let no : false ≡ true = h in cc
some-left (x ∷ xs) e h = cc

-- what is not faulty has no fault
pub no-fault : (j : Judged) → is_faulty j ≡ false → j.faults ≡ []
no-fault j e = elim (cases_Bool (length j.faults == 0)) [ inl t ↦ none-left j.faults t | inr f ↦ let no = rw f at e in cc ]

none-faulty : (below : List Judged) → flat_map (λ (j : Judged). j.faults) below ≡ [] → list_any is_faulty below ≡ false
none-faulty [] e = refl
none-faulty (j ∷ below) e =
    let (here, rest) = front-nil j.faults (flat_map (λ (j : Judged). j.faults) below) e in
    rw here (none-faulty below rest)

-- those below have none, nor do the restrictions
pub judged-quiet : (modules : List Stmt) (site : Site) (base : Base) (below : List Judged) → (judged modules site base below).faults ≡ []
    → (flat_map (λ (j : Judged). j.faults) below ≡ []) × (restriction_faults base site.module site.stmt ≡ [])
judged-quiet modules site base below e =
    let (under, own) = front-nil (flat_map (λ (j : Judged). j.faults) below) (own_faults site base below) e in
    let (patterns, rest) = front-nil (pattern_faults site.module site.stmt) (if list_any is_faulty below then [] else restriction_faults base site.module site.stmt) own in
    (under, rw (none-faulty below under) at rest)

-- what holds of each without faults holds of all that have none
pub made-quiet : (f : Site → Judged) (test : Judged → Bool) → ((s : Site) → (f s).faults ≡ [] → IsTrue (test (f s))) → (sites : List Site) → flat_map (λ (j : Judged). j.faults) (map f sites) ≡ []
    → IsTrue (list_all test (map f sites))
made-quiet f test each [] e = refl
made-quiet f test each (s ∷ sites) e =
    let (here, rest) = front-nil (f s).faults (flat_map (λ (j : Judged). j.faults) (map f sites)) e in
    both (test (f s)) (list_all test (map f sites)) (each s here) (made-quiet f test each sites rest)

-- ---- fraction digits

pub restrictions-quiet : (base : Base) (m : ℕ) (stmt : Stmt) → restriction_faults base m stmt ≡ []
    → (absent_faults base m stmt ≡ []) × (list_faults base m stmt ≡ []) × (is_decimal base ≡ true → digit_faults m stmt ≡ [])
restrictions-quiet base m stmt e = elim (cases_Bool (is_decimal base && not (length (digit_faults m stmt) == 0))) [
  | inl t ↦
      let some : not (length (digit_faults m stmt) == 0) ≡ true = and_second (is_decimal base) (not (length (digit_faults m stmt) == 0)) t in
      let none : digit_faults m stmt ≡ [] = rw t at e in
      absurd (some-left (digit_faults m stmt) none some)
  | inr f ↦
      let rest : (absent_faults base m stmt ++ flat_map (sub_faults base (layer_of base stmt) m) (subs_of stmt)) ++ list_faults base m stmt ≡ [] = rw f at e in
      let (front, listed) = front-nil (absent_faults base m stmt ++ flat_map (sub_faults base (layer_of base stmt) m) (subs_of stmt)) (list_faults base m stmt) rest in
      let (absent, subs) = front-nil (absent_faults base m stmt) (flat_map (sub_faults base (layer_of base stmt) m) (subs_of stmt)) front in
      (absent, listed, λ d. none-left (digit_faults m stmt) (not-not (length (digit_faults m stmt) == 0) (rw d at f)))
]
  where
    not-not : (b : Bool) → not b ≡ false → b ≡ true
    not-not true e = refl
    not-not false e = cc

-- what has to be said is said
pub said : (base : Base) (m : ℕ) (stmt : Stmt) (keyword : Keyword) (needs : List Keyword) → needs ≡ keyword ∷ []
    → (if list_any (λ keyword. not (list_any (is_named keyword) (subs_of stmt))) needs then at_stmt BadRestriction m stmt else []) ≡ [] → list_any (is_named keyword) (subs_of stmt) ≡ true
said base m stmt keyword needs is e = elim (cases_Bool (list_any (is_named keyword) (subs_of stmt))) [
  | inl t ↦ t
  | inr f ↦ let no = rw (is, f) at e in cc
]

good-digits : (m : ℕ) (sub : Stmt) → is_named word.FractionDigits sub ≡ true → digit_fault m sub ≡ [] → are_fraction_digits (argument_of sub) ≡ true
good-digits m sub named e = elim (cases_Bool (are_fraction_digits (argument_of sub))) [ inl t ↦ t | inr f ↦ let no = rw (named, f) at e in cc ]

first-digits : (m : ℕ) (subs : List Stmt) → list_any (is_named word.FractionDigits) subs ≡ true → flat_map (digit_fault m) subs ≡ []
    → are_fraction_digits (unwrap_or (option_map argument_of (find (is_named word.FractionDigits) subs)) []) ≡ true
first-digits m [] some e = cc
first-digits m (sub ∷ subs) some e =
    let (here, rest) = front-nil (digit_fault m sub) (flat_map (digit_fault m) subs) e in
    elim (cases_Bool (is_named word.FractionDigits sub)) [
      | inl t ↦ rw t (good-digits m sub t here)
      | inr f ↦ (let more : list_any (is_named word.FractionDigits) subs ≡ true = rw f at some in rw f (first-digits m subs more rest))
    ]

digits-between : (text : List ℕ) → are_fraction_digits text ≡ true → IsTrue (nat_le 1 (decimal text) && nat_le (decimal text) 18)
digits-between text e =
    let tests = and_second (is_whole text) (nat_lt 0 (decimal text) && nat_le (decimal text) 18) e in
    let low : nat_lt 0 (decimal text) ≡ true = and_first (nat_lt 0 (decimal text)) (nat_le (decimal text) 18) tests in
    let one : IsTrue (nat_le 1 (decimal text)) = grind (arith, nat_tests) in
    both (nat_le 1 (decimal text)) (nat_le (decimal text) 18) one (and_second (nat_lt 0 (decimal text)) (nat_le (decimal text) 18) tests)

-- from 1 to 18
pub digits-good : (m : ℕ) (stmt : Stmt) → list_any (is_named word.FractionDigits) (subs_of stmt) ≡ true → digit_faults m stmt ≡ [] → IsTrue (nat_le 1 (digits_of stmt) && nat_le (digits_of stmt) 18)
digits-good m stmt some e = digits-between (value_of word.FractionDigits stmt) (first-digits m (subs_of stmt) some e)
