-- A way along the first of what each type statement rests on ends within as many steps as there are statements: else it would go round, and a typedef rest on itself.
use Rattle.std.proofs.Common.{◌≡◌, ℕ, zero, suc, ◌+◌, ◌-◌, ◌<◌, ◌≤◌, Bool, true, false, not, ◌==◌, nat_lt, IsTrue, List, [], ◌∷◌, ◌++◌, map, take, length, Some, None, refl, sym, ap, subst, ◌∙◌, inl, inr, arith}
use Rattle.std.specs.Prelude.{⊤, is_some, is_none, codes, if◌then◌else◌}
use Rattle.std.specs.List.{list_all, list_any, flat_map, slice_get}
use Rattle.std.specs.Option.{option_to_list}
use Rattle.std.proofs.lemmas.Bool.{cases_Bool}
use Rattle.std.proofs.lemmas.Bool.Decides.{nat_tests}
use Rattle.sal_stmt.specs.declared.stmt.Stmt.{Stmt}
use Rattle.sal_module.specs.declared.keyword.Keyword.TheVariants as word
use Rattle.sal_module.specs.Keywords.{same}
use Rattle.sal_module.specs.declared.fault.Cause.TheVariants.{UnknownName}
use Rattle.sal_module.specs.Profile.{profile_faults, at_stmt}
use Rattle.sal_module.specs.Statements.{is_named, subs_of, all_named}
use Rattle.sal_typedefs.specs.Names.{name_of, is_builtin, target, types_in, rests_on, under, steps_of, is_of, typedef_around, goes_in_circle, unknown_faults, cycle_faults, base_faults, path_faults}
use Rattle.sal_typedefs.specs.Names as names
use Rattle.sal_typedefs.specs.Scopes.{Site, within, place_of, typedef_of}
use Rattle.sal_typedefs.proofs.Pigeonhole.{pigeonhole}
use Rattle.sal_module_table.specs.Types.{is_read, types_of}
use Rattle.sal_module_table.specs.Types as types
use Rattle.sal_build.specs.Readable.{is_shallow}
use Rattle.sal_build.proofs.Members.{In, In-flat, IsNumbered, numbered, any-in, quiet-in, first-kept}
use Rattle.sal_build.proofs.Quiet.{front-nil}
use Rattle.sal_build.proofs.ReadSites.{IsReadSite, IsTyped, type-read, typedef-read, no-typedef, inner-read, target-read, typed-in, few-types}
use Rattle.sal_build.proofs.Entries.{wrong}

pub other-wrong : true ≡ false → ⊥
other-wrong e = cc

-- ---- ways

abbrev pub is_some_site : List Site → Bool
is_some_site [] = false
is_some_site (site ∷ sites) = true

abbrev pub first_or : Site → List Site → Site
first_or site [] = site
first_or site (first ∷ sites) = first

-- it rests on something, the first of which comes next
abbrev pub moves : List Stmt → Site → Bool
moves stmts site = is_some_site (rests_on stmts site)

abbrev pub next : List Stmt → Site → Site
next stmts site = first_or site (rests_on stmts site)

abbrev pub walk : List Stmt → ℕ → Site → Site
walk stmts zero site = site
walk stmts (suc n) site = walk stmts n (next stmts site)

-- this many steps lead from it
abbrev pub Goes : List Stmt → ℕ → Site → Type 0
Goes stmts zero site = ⊤
Goes stmts (suc n) site = (moves stmts site ≡ true) × Goes stmts n (next stmts site)

module _ (stmts : List Stmt) where
  walk-next : (n : ℕ) (site : Site) → walk stmts n (next stmts site) ≡ next stmts (walk stmts n site)
  walk-next zero site = refl
  walk-next (suc n) site = walk-next n (next stmts site)

  walk-more : (n i k : ℕ) (site : Site) → n ≡ i + k → walk stmts n site ≡ walk stmts k (walk stmts i site)
  walk-more n zero k site e = let same : n ≡ k = omega (arith, e) in ap (λ j. walk stmts j site) same
  walk-more zero (suc i) k site e = absurd (omega (arith, e))
  walk-more (suc n) (suc i) k site e = walk-more n i k (next stmts site) (omega (arith, e))

  goes-more : (n i k : ℕ) (site : Site) → i + k ≤ n → Goes stmts n site → Goes stmts k (walk stmts i site)
  goes-more n zero zero site e goes = tt
  goes-more zero zero (suc k) site e goes = absurd (omega (arith, e))
  goes-more (suc n) zero (suc k) site e goes = (goes.0, goes-more n zero k (next stmts site) (omega (arith, e)) goes.1)
  goes-more zero (suc i) k site e goes = absurd (omega (arith, e))
  goes-more (suc n) (suc i) k site e goes = goes-more n i k (next stmts site) (omega (arith, e)) goes.1

  goes-last : (n : ℕ) (site : Site) → Goes stmts n site → moves stmts (walk stmts n site) ≡ true → Goes stmts (suc n) site
  goes-last zero site goes last = (last, tt)
  goes-last (suc n) site goes last = (goes.0, goes-last n (next stmts site) goes.1 last)

  first-in : (site : Site) (sites : List Site) → is_some_site sites ≡ true → In (first_or site sites) sites
  first-in site [] e = absurd (wrong e)
  first-in site (first ∷ sites) e = inl refl

  -- all on a way are among those that it rests on
  walk-under : (n k : ℕ) (site : Site) → k ≤ n → Goes stmts k site → In (walk stmts k site) (under n stmts site)
  unfolding under
  walk-under zero zero site e goes = inl refl
  walk-under zero (suc k) site e goes = absurd (omega (arith, e))
  walk-under (suc n) zero site e goes = inl refl
  walk-under (suc n) (suc k) site e goes =
      inr (In-flat (under n stmts) (rests_on stmts site) (next stmts site) (walk stmts k (next stmts site)) (first-in site (rests_on stmts site) goes.0) (walk-under n k (next stmts site) (omega (arith, e)) goes.1))

first-none : (site : Site) (sites : List Site) → is_some_site sites ≡ false → first_or site sites ≡ site
first-none site [] e = refl
first-none site (first ∷ sites) e = absurd (other-wrong e)

-- ---- one step

-- the next is the first type in a statement
pub record IsFirst (site around : Site) : Type 0 where
  pub sub : Stmt
  pub is : site ≡ within around sub
  pub inside : In sub (subs_of around.stmt)
  pub named : is_named word.Type sub ≡ true

first-down : (site around : Site) (kept : List Stmt) → all_named word.Type around.stmt ≡ kept → is_some_site (map (within around) kept) ≡ true → IsFirst (first_or site (map (within around) kept)) around
first-down site around [] e h = absurd (wrong h)
first-down site around (sub ∷ kept) e h =
    let here = first-kept (is_named word.Type) (subs_of around.stmt) sub kept e in
    record { sub = sub; is = refl; inside = here.0; named = here.1 }

first-across : (site typedef : Site) (kept : List Stmt) → all_named word.Type typedef.stmt ≡ kept → is_some_site (take 1 (map (within typedef) kept) ++ []) ≡ true
    → IsFirst (first_or site (take 1 (map (within typedef) kept) ++ [])) typedef
first-across site typedef [] e h = absurd (wrong h)
first-across site typedef (sub ∷ kept) e h =
    let here = first-kept (is_named word.Type) (subs_of typedef.stmt) sub kept e in
    record { sub = sub; is = refl; inside = here.0; named = here.1 }

-- or in the typedef that it names
pub record GoesAcross (stmts : List Stmt) (site : Site) : Type 0 where
  pub typedef : Site
  pub means : target stmts site ≡ Some typedef
  pub first : IsFirst (next stmts site) typedef

module _ (stmts : List Stmt) where
  goes-down : (site : Site) → is_builtin site ≡ true → moves stmts site ≡ true → IsFirst (next stmts site) site
  goes-down site builtin e = elim (cases_Bool (same (name_of site) (codes "union"))) [
    | inl t ↦ (let some : is_some_site (types_in site) ≡ true = rw (builtin, t) at e in rw (builtin, t) (first-down site site (all_named word.Type site.stmt) refl some))
    | inr f ↦ (let no : is_some_site [] ≡ true = rw (builtin, f) at e in absurd (wrong no))
  ]

  goes-across : (site : Site) → is_builtin site ≡ false → moves stmts site ≡ true → GoesAcross stmts site
  goes-across site other e =
      let firsts = λ (typedef : Site). take 1 (types_in typedef) in
      let found = typedef_of stmts site (name_of site) in
      let some : is_some_site (flat_map firsts (option_to_list found)) ≡ true = rw other at e in
      let there : rests_on stmts site ≡ flat_map firsts (option_to_list found) = rw other refl in
      elim found as (λ o. found ≡ o → is_some_site (flat_map firsts (option_to_list o)) ≡ true → rests_on stmts site ≡ flat_map firsts (option_to_list o) → GoesAcross stmts site) [
        | None ↦ λ here h is. absurd (wrong h)
        | Some typedef ↦ λ here h is. record {
          typedef = typedef;
          means = rw other here;
          first = subst (λ (sites : List Site). IsFirst (first_or site sites) typedef) (sym is) (first-across site typedef (all_named word.Type typedef.stmt) refl h);
        }
      ] refl some there

-- ---- modules without faults

module _ (stmts : List Stmt) (shallow : IsTrue (list_all (is_shallow 64) stmts)) (profile : profile_faults stmts ≡ []) (quiet : types.name_faults stmts ≡ []) where
  first-typed : (site around : Site) → IsReadSite stmts around → IsTrue (is_read around.stmt) → IsFirst site around → IsTyped stmts site
  first-typed site around read opened first =
      subst (IsTyped stmts) (sym first.is) (record { read = inner-read stmts shallow around first.sub read opened first.inside; named = first.named })

  stays : (site : Site) → moves stmts site ≡ false → next stmts site ≡ site
  stays site e = first-none site (rests_on stmts site) e

  typed-next : (site : Site) → IsTyped stmts site → IsTyped stmts (next stmts site)
  typed-next site typed = elim (cases_Bool (moves stmts site)) [
    | inl some ↦ elim (cases_Bool (is_builtin site)) [
      | inl t ↦ first-typed (next stmts site) site typed.read (type-read site.stmt typed.named) (goes-down stmts site t some)
      | inr f ↦
          (let across = goes-across stmts site f some in
          let typedef = target-read stmts shallow profile site across.typedef typed.read across.means in
          first-typed (next stmts site) across.typedef typedef.read (typedef-read across.typedef.stmt typedef.named) across.first)
    ]
    | inr none ↦ subst (IsTyped stmts) (sym (stays site none)) typed
  ]

  typed-walk : (n : ℕ) (site : Site) → IsTyped stmts site → IsTyped stmts (walk stmts n site)
  typed-walk zero site typed = typed
  typed-walk (suc n) site typed = typed-walk n (next stmts site) (typed-next site typed)

  -- ---- names without faults

  named-well : (site : Site) → IsTyped stmts site → names.name_faults (steps_of stmts) stmts site ≡ []
  named-well site typed = quiet-in (λ (s : Site). names.name_faults (steps_of stmts) stmts s) (types_of stmts) site quiet (typed-in stmts site typed)

  known : (site : Site) → IsTyped stmts site → is_builtin site ≡ false → is_some (target stmts site) ≡ true
  known site typed other =
      let steps = steps_of stmts in
      let (front, paths) = front-nil (unknown_faults stmts site ++ cycle_faults steps stmts site ++ base_faults stmts site) (path_faults stmts site) (named-well site typed) in
      let (fronts, bases) = front-nil (unknown_faults stmts site ++ cycle_faults steps stmts site) (base_faults stmts site) front in
      let (unknown, cycles) = front-nil (unknown_faults stmts site) (cycle_faults steps stmts site) fronts in
      let found = typedef_of stmts site (name_of site) in
      let none_unknown : (if is_none found then at_stmt UnknownName site.module site.stmt else []) ≡ [] = rw other at unknown in
      rw other (elim found as (λ o. (if is_none o then at_stmt UnknownName site.module site.stmt else []) ≡ [] → is_some o ≡ true) [ None ↦ λ no. cc | Some typedef ↦ λ yes. refl ] none_unknown)

  no-circle : (site : Site) → IsTyped stmts site → goes_in_circle (steps_of stmts) stmts site ≡ true → ⊥
  no-circle site typed circle =
      let steps = steps_of stmts in
      let (front, paths) = front-nil (unknown_faults stmts site ++ cycle_faults steps stmts site ++ base_faults stmts site) (path_faults stmts site) (named-well site typed) in
      let (fronts, bases) = front-nil (unknown_faults stmts site ++ cycle_faults steps stmts site) (base_faults stmts site) front in
      let (unknown, cycles) = front-nil (unknown_faults stmts site) (cycle_faults steps stmts site) fronts in
      let no = rw circle at cycles in
      cc

  -- ---- no way goes round

  module _ (site typedef : Site) (names_it : target stmts site ≡ Some typedef) where
    abbrev outer : Site → Site
    outer t = record { «module» = t.module; stmt = typedef.stmt; around = [] }

    same-typedef : (t : Site) → t.module ≡ typedef.module → is_of stmts (outer t) site ≡ true
    same-typedef t e =
        let modules : (t.module == typedef.module) ≡ true = grind (arith, nat_tests) in
        let places : (place_of typedef == place_of typedef) ≡ true = grind (arith, nat_tests) in
        rw names_it (rw (modules, places) refl)

    -- a name inside of the typedef that leads to the one that names it
    comes-back : (q : ℕ) (t : Site) → q ≤ steps_of stmts → IsTyped stmts t → is_builtin t ≡ false → typedef_around t ≡ Some typedef.stmt → t.module ≡ typedef.module → Goes stmts q t → walk stmts q t ≡ site → ⊥
    comes-back q t few typed other around modules goes back =
        let reached : In site (under (steps_of stmts) stmts t) = subst (λ s. In s (under (steps_of stmts) stmts t)) back (walk-under stmts (steps_of stmts) q t few goes) in
        let found : list_any (is_of stmts (outer t)) (under (steps_of stmts) stmts t) ≡ true = any-in (is_of stmts (outer t)) (under (steps_of stmts) stmts t) site (same-typedef t modules) reached in
        let some = known t typed other in
        no-circle t typed (rw (some, around, found) refl)

    meets : (q : ℕ) (t : Site) → q ≤ steps_of stmts → IsTyped stmts t → typedef_around t ≡ Some typedef.stmt → t.module ≡ typedef.module → Goes stmts q t → walk stmts q t ≡ site → ⊥
    meets zero t few typed around modules goes back = elim (cases_Bool (is_builtin t)) [
      | inl b ↦ (let mine : target stmts t ≡ Some typedef = ap (target stmts) back ∙ names_it in let no = rw b at mine in cc)
      | inr f ↦ comes-back 0 t few typed f around modules goes back
    ]
    meets (suc q) t few typed around modules goes back = elim (cases_Bool (is_builtin t)) [
      | inl b ↦
          (let down = goes-down stmts t b goes.0 in
          let plain = no-typedef t.stmt typed.named in
          let further : typedef_around (within t down.sub) ≡ Some typedef.stmt = rw plain around in
          let closer : typedef_around (next stmts t) ≡ Some typedef.stmt = ap typedef_around down.is ∙ further in
          let kept : (next stmts t).module ≡ typedef.module = ap (λ (s : Site). s.module) down.is ∙ modules in
          meets q (next stmts t) (omega (arith, few)) (typed-next t typed) closer kept goes.1 back)
      | inr f ↦ comes-back (suc q) t few typed f around modules goes back
    ]

  -- Downwards alone a way does not come back; and where it goes across, the typedef rests on itself.
  turns : (site : Site) (p q : ℕ) (t : Site) → suc p ≤ steps_of stmts → IsTyped stmts t → Goes stmts (suc p) t → walk stmts (suc p) t ≡ t → walk stmts q t ≡ site
      → q + length t.around ≡ suc p + length site.around → ⊥
  turns site p zero t few typed goes round back deep = let same_depth : length t.around ≡ length site.around = ap (λ (s : Site). length s.around) back in omega (arith, deep, same_depth)
  turns site p (suc q) t few typed goes round back deep = elim (cases_Bool (is_builtin t)) [
    | inl b ↦
        (let down = goes-down stmts t b goes.0 in
        let last : moves stmts (walk stmts p (next stmts t)) ≡ true = ap (moves stmts) round ∙ goes.0 in
        let longer : length (next stmts t).around ≡ suc (length t.around) = ap (λ (s : Site). length s.around) down.is in
        turns site p q (next stmts t) few (typed-next t typed) (goes-last stmts p (next stmts t) goes.1 last) (walk-next stmts (suc p) t ∙ ap (next stmts) round) back (omega (arith, deep, longer)))
    | inr f ↦
        (let across = goes-across stmts t f goes.0 in
        let typedef = target-read stmts shallow profile t across.typedef typed.read across.means in
        let inside : typedef_around (within across.typedef across.first.sub) ≡ Some across.typedef.stmt = rw typedef.named refl in
        let around : typedef_around (next stmts t) ≡ Some across.typedef.stmt = ap typedef_around across.first.is ∙ inside in
        let kept : (next stmts t).module ≡ across.typedef.module = ap (λ (s : Site). s.module) across.first.is in
        meets t across.typedef across.means p (next stmts t) (omega (arith, few)) (typed-next t typed) around kept goes.1 round)
  ]

  -- ---- no way is longer

  number-of : (site : Site) → IsTyped stmts site → (i : ℕ) → IsNumbered (walk stmts i site) (types_of stmts)
  number-of site typed i = numbered (walk stmts i site) (types_of stmts) (typed-in stmts (walk stmts i site) (typed-walk i site typed))

  once : (site : Site) (i j : ℕ) → IsTyped stmts site → Goes stmts (steps_of stmts) site → i < j → j ≤ steps_of stmts → walk stmts i site ≡ walk stmts j site → ⊥
  once site i j typed goes less few same =
      let p = j - suc i in
      let here = walk stmts i site in
      let parts : j ≡ i + suc p = omega (arith, less) in
      turns here p (suc p) here (omega (arith, parts, few)) (typed-walk i site typed) (goes-more stmts (steps_of stmts) i (suc p) site (omega (arith, parts, few)) goes)
      (sym (walk-more stmts j i (suc p) site parts) ∙ sym same) (sym (walk-more stmts j i (suc p) site parts) ∙ sym same) refl

  got-same : (site : Site) (i j : ℕ) (typed : IsTyped stmts site) → (number-of site typed i).number ≡ (number-of site typed j).number → walk stmts i site ≡ walk stmts j site
  got-same site i j typed e =
      let one = number-of site typed i in
      let two = number-of site typed j in
      let both_got : Some (walk stmts i site) ≡ Some (walk stmts j site) = sym one.got ∙ ap (slice_get (types_of stmts)) e ∙ two.got in
      cc

  pub no-longer : (site : Site) → IsTyped stmts site → Goes stmts (steps_of stmts) site → ⊥
  no-longer site typed goes =
      let count = steps_of stmts in
      let most = pigeonhole (suc count) (length (types_of stmts)) (λ i. (number-of site typed i).number) (λ i h. (number-of site typed i).less) (λ i j h k e. elim (cases_Bool (nat_lt i j)) [
        | inl t ↦ (let less : i < j = grind (arith, nat_tests) in absurd (once site i j typed goes less (omega (arith, k)) (got-same site i j typed e)))
        | inr f ↦ elim (cases_Bool (nat_lt j i)) [
          | inl t ↦ (let less : j < i = grind (arith, nat_tests) in absurd (once site j i typed goes less (omega (arith, h)) (sym (got-same site i j typed e))))
          | inr g ↦ grind (arith, nat_tests)
        ]
      ]) in
      omega (arith, most, few-types stmts)
