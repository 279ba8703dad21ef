-- Texts that are short together are read to readable statements.
use Rattle.std.proofs.Common.{◌≡◌, ℕ, ◌+◌, ◌<◌, ◌^◌, List, [], ◌∷◌, map, length, get_or, nat_lt, IsTrue, Result, Ok, Err, refl, ap, ◌∙◌, arith}
use Rattle.std.specs.List.{sum_by}
use Rattle.std.proofs.lemmas.Bool.Decides.{nat_tests}
use Rattle.std.proofs.lemmas.List.Sums.{get_or-le-sum_by}
use Rattle.sal_types.specs.Reading.{◌>>=◌}
use Rattle.sal_stmt.specs.declared.fault.StmtFault.{StmtFault}
use Rattle.sal_stmt.specs.declared.stmt.Stmt.{Stmt}
use Rattle.sal_stmt.specs.Text.{read}
use Rattle.sal_script.specs.Limits.{are_short}
use Rattle.sal_build.specs.Readable.{are_readable, ReadIsReadable}
use Rattle.sal_versions.specs.Schemas.{or_text, statements_from}

-- ---- how long texts are

less : (a b : ℕ) → IsTrue (nat_lt a b) → a < b
less a b h = grind (arith, nat_tests)

pub short_sum : (texts : List (List ℕ)) → IsTrue (are_short texts) → sum_by length texts < 2 ^ 32
short_sum texts short = less (sum_by length texts) (2 ^ 32) short

pub short_one : (texts : List (List ℕ)) (i : ℕ) (text : List ℕ) → i < length texts → text ≡ get_or texts i text → IsTrue (are_short texts) → length text < 2 ^ 32
short_one texts i text inside is short =
    let part = get_or-le-sum_by length texts i text inside in
    let here = ap length is in
    let all = short_sum texts short in
    omega (arith, part, here, all)

-- ---- each is read

given : (stmt : Stmt) (more stmts : List Stmt) → ◌≡◌ {A = Result (List Stmt) (List ℕ)} (Ok (stmt ∷ more)) (Ok stmts) → stmt ∷ more ≡ stmts
given stmt more stmts e = cc

pub each_read : (number : ℕ) (texts : List (List ℕ)) (stmts : List Stmt) → statements_from number texts ≡ Ok stmts → map read texts ≡ map Ok stmts
each_read number [] [] e = refl
each_read number [] (stmt ∷ stmts) e = cc
each_read number (text ∷ texts) stmts e =
    elim (read text) as (λ r. (or_text number text r >>= (λ stmt. statements_from (number + 1) texts >>= (λ more. Ok (stmt ∷ more)))) ≡ Ok stmts → r ∷ map read texts ≡ map Ok stmts) [
      | Err fault ↦ λ f. cc
      | Ok stmt ↦ λ f.
          (elim (statements_from (number + 1) texts) as (λ rest. statements_from (number + 1) texts ≡ rest → (rest >>= (λ more. Ok (stmt ∷ more))) ≡ Ok stmts → Ok stmt ∷ map read texts ≡ map Ok stmts) [
            | Err fault ↦ λ g h. cc
            | Ok more ↦ λ g h. ap (λ (rest : List (Result Stmt StmtFault)). Ok stmt ∷ rest) (each_read (number + 1) texts more g) ∙ ap (λ (all : List Stmt). map Ok all) (given stmt more stmts h)
          ] refl f)
    ] e

pub texts_readable : ReadIsReadable → (texts : List (List ℕ)) (stmts : List Stmt) → IsTrue (are_short texts) → statements_from 0 texts ≡ Ok stmts → IsTrue (are_readable stmts)
texts_readable law texts stmts short e = law texts stmts (each_read 0 texts stmts e) (short_sum texts short)
