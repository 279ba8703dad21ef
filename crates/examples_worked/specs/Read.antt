-- The statements of the texts of a list.
use Rattle.std.specs.Prelude.{◌≡◌, List, Ok, Err, map}
use Rattle.sal_stmt.specs.declared.fault.StmtFault.{StmtFault}
use Rattle.sal_stmt.specs.declared.stmt.Stmt.{Stmt}
use Rattle.sal_stmt.specs.Words.{Text}
use Rattle.sal_stmt.specs.Text.{read}

-- each text denotes the statement beside it
abbrev pub AreStatements : List (Text × Stmt) → Type 0
AreStatements cases = map (λ (c : Text × Stmt). read c.0) cases ≡ map (λ (c : Text × Stmt). Ok c.1) cases

-- each text is no statement, and the fault beside it is its first
abbrev pub AreFaults : List (Text × StmtFault) → Type 0
AreFaults cases = map (λ (c : Text × StmtFault). read c.0) cases ≡ map (λ (c : Text × StmtFault). Err c.1) cases
