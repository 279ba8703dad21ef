-- The statement at a byte offset.
use Rattle.std.specs.Prelude.{ℕ, zero, suc, Bool, true, ◌&&◌, ◌/◌, ◌==◌, nat_lt, nat_le, length, take, drop, List, [], ◌∷◌, Option, Some, None, is_some, if◌then◌else◌}
use Rattle.sal_stmt.specs.declared.stmt.Stmt.{Stmt, out-Stmt}
use Rattle.sal_module.specs.Statements.{subs_of}

-- the result of f at the first element where it has one
abbrev pub find_first : {X Y : Type 0} → (X → Option Y) → List X → Option Y
find_first f [] = None
find_first f (x ∷ xs) = if is_some (f x) then f x else find_first f xs

-- the statement at this offset, among a statement and those in `levels` levels below it
unfoldable pub find_at : ℕ → ℕ → Stmt → Option Stmt
find_at zero at stmt = if (out-Stmt stmt).at == at then Some stmt else None
find_at (suc levels) at stmt = if (out-Stmt stmt).at == at then Some stmt else find_first (find_at levels at) (subs_of stmt)

-- ---- in the order of the text

-- the offset of the first of these statements, or `high` if there is none
abbrev pub start_or : ℕ → List Stmt → ℕ
start_or high [] = high
start_or high (stmt ∷ stmts) = (out-Stmt stmt).at

-- the test holds for each statement with the offset of the next one
abbrev pub all_before : (ℕ → Stmt → Bool) → ℕ → List Stmt → Bool
all_before test high [] = true
all_before test high (stmt ∷ stmts) = test (start_or high stmts) stmt && all_before test high stmts

-- The offsets of a statement and all below it are less than `high`, and each is less than those in its block and of the next one.
unfoldable pub is_in_order : ℕ → ℕ → Stmt → Bool
is_in_order zero high stmt = nat_lt (out-Stmt stmt).at high
is_in_order (suc levels) high stmt = nat_lt (out-Stmt stmt).at (start_or high (subs_of stmt)) && all_before (is_in_order levels) high (subs_of stmt)

-- the half of these statements in which one at this offset must be
abbrev pub half_of : ℕ → List Stmt → List Stmt
half_of at stmts =
    if nat_le (start_or 4294967296 (drop (length stmts / 2) stmts)) at then drop (length stmts / 2) stmts else take (length stmts / 2) stmts
