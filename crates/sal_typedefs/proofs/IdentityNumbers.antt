-- Identities have numbers below the number of statements.
use Rattle.std.proofs.Common.{◌≡◌, ℕ, zero, suc, ◌+◌, ◌<◌, ◌≤◌, ◌^◌, List, [], ◌∷◌, length, take, filter, Bool, Option, Some, None, refl, ap, inl, inr, arith}
use Rattle.std.specs.Prelude.{IfSome, option_map, option_and_then}
use Rattle.std.specs.List.{position_from, slice_get, sum_by}
use Rattle.std.proofs.lemmas.Bool.{cases_Bool}
use Rattle.std.proofs.lemmas.List.Sums.{sum_by-cons, sum_by_more_le}
use Rattle.sal_stmt.specs.declared.stmt.Stmt.{Stmt}
use Rattle.sal_module.specs.declared.keyword.Keyword.TheVariants as word
use Rattle.sal_module.specs.Keywords.{same}
use Rattle.sal_module.specs.Statements.{is_named, argument_of, subs_of}
use Rattle.sal_typedefs.specs.Scopes.{module_of, local, identities_of, identity_in, identity_of}
use Rattle.sal_typedefs.specs.Names.{count, steps_of}
use Rattle.sal_typedefs.proofs.IdentityLists.{got-at}
use Rattle.sal_typedefs.proofs.SpotLists.{count-more}

-- ---- fewer identities than statements

filter-short : {X : Type 0} (p : X → Bool) (xs : List X) → length (filter p xs) ≤ length xs
filter-short p [] = omega arith
filter-short p (x ∷ xs) = elim (cases_Bool (p x)) [
  | inl t ↦ rw t (omega (arith, filter-short p xs))
  | inr f ↦ rw f (omega (arith, filter-short p xs))
]

pub count-some : (levels : ℕ) (stmt : Stmt) → 1 ≤ count levels stmt
unfolding count
count-some zero stmt = omega arith
count-some (suc levels) stmt = omega arith

each-counts : (levels : ℕ) (subs : List Stmt) → length subs ≤ sum_by (count levels) subs
each-counts levels [] = omega arith
each-counts levels (sub ∷ subs) = omega (arith, sum_by-cons (count levels) sub subs, count-some levels sub, each-counts levels subs)

abbrev many : Stmt → ℕ
many stmt = length (identities_of stmt)

many-few : (stmt : Stmt) → many stmt ≤ count 64 stmt
many-few stmt =
    let whole = count-more 64 stmt (omega arith) in
    omega (arith, whole, filter-short (is_named word.Identity) (subs_of stmt), each-counts 63 (subs_of stmt))

-- there are no more identities than statements
pub identities-few : (stmts : List Stmt) → sum_by (λ one. length (identities_of one)) stmts ≤ steps_of stmts
identities-few [] = omega arith
identities-few (stmt ∷ stmts) = omega (arith, sum_by-cons many stmt stmts, sum_by-cons (count 64) stmt stmts, many-few stmt, identities-few stmts)

-- ---- their numbers

position-low : {X : Type 0} (p : X → Bool) (n : ℕ) (xs : List X) (j : ℕ) → position_from p n xs ≡ Some j → j < n + length xs
position-low p n [] j e = cc
position-low p n (x ∷ xs) j e = elim (cases_Bool (p x)) [
  | inl t ↦ (let h = rw t at e in let is : n ≡ j = cc in omega arith)
  | inr f ↦ (let h = rw f at e in omega (arith, position-low p (n + 1) xs j h))
]

there : {X : Type 0} (xs : List X) (k : ℕ) (x : X) → slice_get xs k ≡ Some x → k < length xs
there [] k x e = cc
there (y ∷ xs) zero x e = omega arith
there (y ∷ xs) (suc k) x e = omega (arith, there xs k x e)

module _ (stmts : List Stmt) where
  in-module : (name : List ℕ) (m : ℕ) (stmt : Stmt) → slice_get stmts m ≡ Some stmt → IfSome (identity_in stmts name m stmt) (λ k. k < steps_of stmts)
  in-module name m stmt at =
      let p : Stmt → Bool = λ one. same (argument_of one) name in
      elim (position_from p 0 (identities_of stmt)) as (λ f. position_from p 0 (identities_of stmt) ≡ f
      → IfSome (option_map (λ i. sum_by (λ one. length (identities_of one)) (take m stmts) + i) f) (λ k. k < steps_of stmts)) [
        | None ↦ λ e. tt
        | Some j ↦ λ e.
            let room = sum_by_more_le many stmts m stmt (there stmts m stmt at) in
            let here = ap many (got-at stmts m stmt at) in
            omega (arith, position-low p 0 (identities_of stmt) j e, room, here, identities-few stmts)
      ] refl

  -- the number of an identity is below that of the statements
  pub identity-low : (m : ℕ) (name : List ℕ) → IfSome (identity_of stmts m name) (λ k. k < steps_of stmts)
  identity-low m name =
      elim (module_of stmts m name) as (λ f. IfSome (option_and_then (λ k. option_and_then (identity_in stmts (local name) k) (slice_get stmts k)) f) (λ k. k < steps_of stmts)) [
        | None ↦ tt
        | Some k ↦
            (elim (slice_get stmts k) as (λ f. slice_get stmts k ≡ f → IfSome (option_and_then (identity_in stmts (local name) k) f) (λ n. n < steps_of stmts)) [
              | None ↦ λ e. tt
              | Some stmt ↦ λ e. in-module (local name) k stmt e
            ] refl)
      ]

small-some : (found : Option ℕ) (bound : ℕ) → bound < 2 ^ 32 → IfSome found (λ k. k < bound) → IfSome found (λ k. k < 2 ^ 32)
small-some None bound h low = tt
small-some (Some k) bound h low = omega (arith, h, low)

-- Where there are fewer than 2^32 statements it has 32 bits.
pub identity-small : (stmts : List Stmt) (m : ℕ) (name : List ℕ) → steps_of stmts < 2 ^ 32 → IfSome (identity_of stmts m name) (λ k. k < 2 ^ 32)
identity-small stmts m name h = small-some (identity_of stmts m name) (steps_of stmts) h (identity-low stmts m name)
