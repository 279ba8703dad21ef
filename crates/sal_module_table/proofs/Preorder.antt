-- All statements in the order of the texts, and the first of them at a place.
use Rattle.std.proofs.Common.{◌≡◌, ℕ, zero, suc, ◌+◌, ◌-◌, ◌<◌, ◌≤◌, List, [], ◌∷◌, Bool, false, ◌&&◌, ◌==◌, Option, Some, None, is_some, if◌then◌else◌, refl, ◌∙◌, ap, inl, inr, arith}
use Rattle.std.specs.Prelude.{find, option_and_then}
use Rattle.std.specs.List.{flat_map, enumerate_from, slice_get}
use Rattle.std.specs.Option.{option_or}
use Rattle.std.proofs.lemmas.Bool.{cases_Bool}
use Rattle.std.proofs.lemmas.Bool.Decides.{nat_tests}
use Rattle.std.proofs.lemmas.List.Folds.{find-append}
use Rattle.sal_stmt.specs.declared.stmt.Stmt.{Stmt}
use Rattle.sal_module.specs.Statements.{subs_of}
use Rattle.sal_module.specs.Places.{find_first}
use Rattle.sal_typedefs.specs.Scopes.{Site, within, top, place_of, way_to, site_at}
use Rattle.sal_module_table.specs.Typed.{sites, sites_of}

-- ---- the first of several lists

or-first : {X : Type 0} (o other : Option X) → option_or o other ≡ (if is_some o then o else other)
or-first None other = refl
or-first (Some x) other = refl

find-flat : {X Y : Type 0} (p : Y → Bool) (f : X → List Y) (xs : List X) → find p (flat_map f xs) ≡ find_first (λ x. find p (f x)) xs
find-flat p f [] = refl
find-flat p f (x ∷ xs) =
    find-append p (f x) (flat_map f xs) ∙ or-first (find p (f x)) (find p (flat_map f xs)) ∙ ap (λ rest. if is_some (find p (f x)) then find p (f x) else rest) (find-flat p f xs)

first-none : {X Y : Type 0} (f : X → Option Y) → ((x : X) → f x ≡ None) → (xs : List X) → find_first f xs ≡ None
first-none f none [] = refl
first-none f none (x ∷ xs) = rw (none x) (first-none f none xs)

-- ---- the statements of one module

abbrev pub is_at : ℕ → ℕ → Site → Bool
is_at m at site = site.module == m && place_of site == at

abbrev way_in : ℕ → ℕ → ℕ → Site → Option Site
way_in m levels at site = if site.module == m then way_to levels at site else None

way : (m levels at : ℕ) (site : Site) → find (is_at m at) (sites levels site) ≡ way_in m levels at site
unfolding sites way_to
way m zero at site =
    elim (cases_Bool (site.module == m)) [
      | inl e ↦ rw e refl
      | inr e ↦ rw e refl
    ]
way m (suc levels) at site =
    let subs = subs_of site.stmt in
    let below : find (is_at m at) (flat_map (λ sub. sites levels (within site sub)) subs) ≡ find_first (λ sub. way_in m levels at (within site sub)) subs =
    find-flat (is_at m at) (λ sub. sites levels (within site sub)) subs ∙ ap (λ (f : Stmt → Option Site). find_first f subs) (λ i sub. way m levels at (within site sub) i) in
    elim (cases_Bool (site.module == m)) [
      | inl e ↦ rw e (ap (λ rest. if place_of site == at then Some site else rest) (rw e at below))
      | inr e ↦ rw e (rw e at below ∙ first-none _ (λ sub. refl) subs)
    ]

-- ---- all modules

abbrev entry_way : ℕ → ℕ → ℕ × Stmt → Option Site
entry_way m at entry = way_in m 64 at (top entry.0 entry.1)

past : (m at k : ℕ) (stmts : List Stmt) → m < k → find_first (entry_way m at) (enumerate_from k stmts) ≡ None
past m at k [] h = refl
past m at k (x ∷ stmts) h =
    let other : (k == m) ≡ false = grind (arith, nat_tests) in
    rw other (past m at (k + 1) stmts (omega arith))

or-none : {X : Type 0} (o : Option X) → (if is_some o then o else None) ≡ o
or-none None = refl
or-none (Some x) = refl

modules-from : (m at k : ℕ) (stmts : List Stmt) → k ≤ m → find_first (entry_way m at) (enumerate_from k stmts) ≡ option_and_then (λ stmt. way_to 64 at (top m stmt)) (slice_get stmts (m - k))
modules-from m at k [] h = refl
modules-from m at k (x ∷ stmts) h = elim (cases_Bool (k == m)) [
  | inl e ↦
      let same : k ≡ m = grind (arith, nat_tests) in
      let here : m - k ≡ 0 = omega arith in
      let rest : find_first (entry_way m at) (enumerate_from (k + 1) stmts) ≡ None = past m at (k + 1) stmts (omega arith) in
      rw (e, here) (ap (λ r. if is_some (way_to 64 at (top k x)) then way_to 64 at (top k x) else r) rest ∙ or-none (way_to 64 at (top k x)) ∙ ap (λ n. way_to 64 at (top n x)) same)
  | inr e ↦
      let later : k + 1 ≤ m = grind (arith, nat_tests) in
      let less : m - k ≡ suc (m - (k + 1)) = omega arith in
      rw (e, less) (modules-from m at (k + 1) stmts later)
]

-- the first statement at a place
pub first-at : (stmts : List Stmt) (m at : ℕ) → find (is_at m at) (sites_of stmts) ≡ site_at stmts m at
first-at stmts m at =
    let same : m - 0 ≡ m = omega arith in
    find-flat (is_at m at) (λ (entry : ℕ × Stmt). sites 64 (top entry.0 entry.1)) (enumerate_from 0 stmts)
    ∙ ap (λ (f : ℕ × Stmt → Option Site). find_first f (enumerate_from 0 stmts)) (λ i entry. way m 64 at (top entry.0 entry.1) i)
    ∙ modules-from m at 0 stmts (omega arith) ∙ rw same refl
