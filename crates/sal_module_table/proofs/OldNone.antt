-- Without old modules no base is forbidden for a later version, and tables are judged as in `build`.
use Rattle.std.proofs.Common.{◌≡◌, ℕ, Bool as Truth, true, false, List, [], ◌∷◌, ◌++◌, Option, Some, None, Ok, refl, ap, ◌∙◌, append-nil, inl, inr, arith}
use Rattle.std.specs.Prelude.{nat_lt, nat_le, if◌then◌else◌}
use Rattle.std.specs.List.{flat_map, slice_get}
use Rattle.std.specs.Option.{option_map_or}
use Rattle.std.proofs.lemmas.Bool.{cases_Bool}
use Rattle.std.proofs.lemmas.Bool.Decides.{nat_tests}
use Rattle.sal_types.specs.Reading.{◌>>=◌}
use Rattle.sal_stmt.specs.declared.stmt.Stmt.{Stmt}
use Rattle.sal_module.specs.declared.keyword.Keyword.TheVariants as word
use Rattle.sal_module.specs.declared.fault.Found.{Found}
use Rattle.sal_module.specs.Statements.{is_named, subs_of, argument_of}
use Rattle.sal_typedefs.specs.Scopes.{identity_of}
use Rattle.sal_grouping.specs.declared.forest.Branch.{Branch}
use Rattle.sal_grouping.specs.Expand.{unless_any}
use Rattle.sal_module_table.specs.Build.{table_of, name_faults, other_faults, judged, judged_on}
use Rattle.sal_module_table.specs.Identities.{Identity, identities_of}
use Rattle.sal_module_table.specs.Lists as lists
use Rattle.sal_module_table.specs.OldBases.{is_old, base_faults, faults_of, all_faults}
use Rattle.sal_module_table.specs.Types as types

flat-none : {X A : Type 0} (f : X → List A) → ((x : X) → f x ≡ []) → (xs : List X) → flat_map f xs ≡ []
flat-none f none [] = refl
flat-none f none (x ∷ xs) = ap (λ front. front ++ flat_map f xs) (none x) ∙ flat-none f none xs

-- no number is below 0
lone : (one : Option Identity) → option_map_or (λ (one : Identity). nat_lt one.0 0) one false ≡ false
lone None = refl
lone (Some one) = grind (arith, nat_tests)

old-none : (all : List Identity) (target : Option ℕ) → is_old 0 all target ≡ false
old-none all None = refl
old-none all (Some i) = lone (slice_get all i)

base-none : (stmts : List Stmt) (all : List Identity) (m : ℕ) (sub : Stmt) → base_faults 0 stmts all m sub ≡ []
base-none stmts all m sub =
    let no = old-none all (identity_of stmts m (argument_of sub)) in
    elim (cases_Bool (is_named word.Base sub)) [
      | inl is ↦ rw (is, no) refl
      | inr is ↦ rw is refl
    ]

if-none : {A : Type 0} (test : Truth) (xs : List A) → xs ≡ [] → (if test then xs else []) ≡ []
if-none true xs e = e
if-none false xs e = refl

faults-none : (stmts : List Stmt) (all : List Identity) (one : Identity) → faults_of 0 stmts all one ≡ []
faults-none stmts all one =
    if-none (nat_le 0 one.0) (flat_map (base_faults 0 stmts all one.0) (subs_of one.1)) (flat-none (base_faults 0 stmts all one.0) (base-none stmts all one.0) (subs_of one.1))

all-none : (stmts : List Stmt) → all_faults 0 stmts ≡ []
all-none stmts = flat-none (faults_of 0 stmts (identities_of stmts)) (faults-none stmts (identities_of stmts)) (identities_of stmts)

others-none : (stmts : List Stmt) → other_faults 0 stmts ≡ types.other_faults stmts
others-none stmts = ap (λ more. types.other_faults stmts ++ more) (all-none stmts) ∙ append-nil (types.other_faults stmts)

-- the table is judged as that of `build` is
pub judged-first : (stmts : List Stmt) (forest : List Branch) → judged_on 0 stmts forest ≡ judged stmts forest
judged-first stmts forest =
    ap (λ (others : List Found). unless_any (name_faults stmts forest) forest
    >>= (λ forest. unless_any others forest)
    >>= (λ forest. unless_any (lists.all_faults stmts forest) forest)
    >>= (λ forest. Ok (table_of stmts forest))) (others-none stmts)
