-- The result of the first modules.
use Rattle.std.proofs.Common.{◌≡◌, ◌<◌, ℕ, List, take, length, get_or}
use Rattle.std.specs.List.{sum_by}
use Rattle.sal_stmt.specs.declared.stmt.Stmt.{Stmt}
use Rattle.sal_typedefs.specs.Scopes.{identities_of, identity_in}
use Rattle.sal_typedefs.specs.Blocks.{Numbers, get_by_name}
use Rattle.sal_typedefs.proofs.identities.identities_of.Given as goal

abbrev pub invariant-loop-stmt : goal.invariant-loop-stmt
invariant-loop-stmt l =
    record {
      count : length l.all.items ≡ l.stmt-index;
      next : l.tally ≡ sum_by (λ one. length (identities_of one)) (take l.stmt-index l.stmts);
      each : (m : ℕ) (d : Numbers) → m < l.stmt-index → (e : Stmt) (q : List ℕ) → get_by_name (get_or l.all.items m d) q ≡ identity_in l.stmts q m (get_or l.stmts m e);
    }
