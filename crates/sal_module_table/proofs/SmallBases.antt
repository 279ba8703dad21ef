-- The numbers of bases have 32 bits, if there are fewer than 2^32 statements.
use Rattle.std.proofs.Common.{◌≡◌, ℕ, zero, suc, ◌<◌, ◌^◌, nat_lt, All, List, [], ◌∷◌, map, length, Option, Some, None, Ok, inl, inr}
use Rattle.std.specs.Prelude.{IfSome}
use Rattle.std.specs.List.{flat_map}
use Rattle.std.specs.Option.{option_to_list}
use Rattle.std.proofs.lemmas.Bool.{cases_Bool}
use Rattle.std.proofs.lemmas.List.Elements.{All-nil, All-cons, All-append}
use Rattle.sal_stmt.specs.declared.stmt.Stmt.{Stmt}
use Rattle.sal_module.specs.declared.fault.Found.{Found}
use Rattle.sal_module.specs.declared.keyword.Keyword.TheVariants as word
use Rattle.sal_module.specs.Statements.{is_named, subs_of, argument_of}
use Rattle.sal_module.specs.Modules.{answer, check, first_fault}
use Rattle.sal_typedefs.specs.Names.{steps_of}
use Rattle.sal_typedefs.specs.Scopes.{identity_of}
use Rattle.sal_typedefs.proofs.IdentityNumbers.{identity-small}
use Rattle.sal_module_table.specs.Identities.{Identity, bases_in, bases_of, AreSmall}

-- ---- modules that passed are those that were given

same-answer : (stmts other : List Stmt) (found : Option Found) → answer stmts found ≡ Ok other → stmts ≡ other
same-answer stmts other None e = cc
same-answer stmts other (Some found) e = cc

pub same-modules : (stmts other : List Stmt) → check stmts ≡ Ok other → stmts ≡ other
same-modules stmts other e = elim (cases_Bool (nat_lt 64 (length stmts))) [
  | inl many ↦ (let no = rw many at e in cc)
  | inr few ↦ same-answer stmts other (first_fault stmts) (rw few at e)
]

-- ---- bases

found-small : (found : Option ℕ) → IfSome found (λ k. k < 2 ^ 32) → All (λ k. k < 2 ^ 32) (option_to_list found)
found-small None h = All-nil (λ k. k < 2 ^ 32)
found-small (Some k) h = All-cons (λ k. k < 2 ^ 32) k [] h (All-nil (λ k. k < 2 ^ 32))

module _ (stmts : List Stmt) (few : steps_of stmts < 2 ^ 32) where
  in-small : (m : ℕ) (subs : List Stmt) → All (λ k. k < 2 ^ 32) (flat_map (bases_in stmts m) subs)
  in-small m [] = All-nil (λ k. k < 2 ^ 32)
  in-small m (sub ∷ subs) = elim (cases_Bool (is_named word.Base sub)) [
    | inl t ↦
        let here = found-small (identity_of stmts m (argument_of sub)) (identity-small stmts m (argument_of sub) few) in
        rw t (All-append (λ k. k < 2 ^ 32) (option_to_list (identity_of stmts m (argument_of sub))) (flat_map (bases_in stmts m) subs) here (in-small m subs))
    | inr f ↦ rw f (in-small m subs)
  ]

  -- of each of these identities
  pub bases-small : (some : List Identity) → AreSmall (map (bases_of stmts) some)
  bases-small [] i = All-nil (λ k. k < 2 ^ 32)
  bases-small (one ∷ some) zero = in-small one.0 (subs_of one.1)
  bases-small (one ∷ some) (suc i) = bases-small some i
