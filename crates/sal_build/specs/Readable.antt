-- The statements of texts: the offsets in one text differ, blocks are nested at most 64 deep, and there are fewer than 2 ^ 32 in all.
use Rattle.std.specs.Prelude.{◌≡◌, ℕ, zero, suc, ◌<◌, ◌≤◌, ◌^◌, ◌&&◌, nat_eq, nat_lt, Bool as Truth, List, ◌∷◌, [], map, length, Ok, IsTrue}
use Rattle.std.specs.List.{flat_map, list_all, sum_by}
use Rattle.sal_stmt.specs.declared.stmt.Stmt.{Stmt, out-Stmt}
use Rattle.sal_stmt.specs.Text.{read}
use Rattle.sal_stmt.specs.Words.{Text}
use Rattle.sal_module.specs.Places.{is_in_order}
use Rattle.sal_module.specs.Statements.{subs_of}
use Rattle.sal_schema.specs.Valid.{all_differ, is_empty}
use Rattle.sal_typedefs.specs.Names.{count, steps_of}

-- ---- one tree

-- the offsets of a statement and of those in `levels` levels below it
unfoldable pub places : ℕ → Stmt → List ℕ
places zero stmt = (out-Stmt stmt).at ∷ []
places (suc levels) stmt = (out-Stmt stmt).at ∷ flat_map (places levels) (subs_of stmt)

-- the offsets of its statements differ
abbrev pub has_own_places : Stmt → Truth
has_own_places stmt = all_differ nat_eq (places 64 stmt)

-- none is more than `levels` levels below it
unfoldable pub is_shallow : ℕ → Stmt → Truth
is_shallow zero stmt = is_empty (subs_of stmt)
is_shallow (suc levels) stmt = list_all (is_shallow levels) (subs_of stmt)

abbrev pub is_readable : Stmt → Truth
is_readable stmt = has_own_places stmt && is_shallow 64 stmt

-- ---- all of them

-- Each tree is as it is read from a text, and there are fewer than 2 ^ 32 statements in all.
abbrev pub are_readable : List Stmt → Truth
are_readable stmts = list_all is_readable stmts && nat_lt (steps_of stmts) (2 ^ 32)

-- ---- statements that are read

-- The offsets of what is read from a text of fewer than 2 ^ 32 bytes ascend: each statement's is less than those in its block, and these less
-- than the next one's.
abbrev pub ReadIsInOrder : Type 0
ReadIsInOrder = (text : Text) (stmt : Stmt) → length text < 2 ^ 32 → read text ≡ Ok stmt → IsTrue (is_in_order 64 (2 ^ 32) stmt)

-- Each statement takes a byte or more.
abbrev pub ReadIsCounted : Type 0
ReadIsCounted = (text : Text) (stmt : Stmt) → read text ≡ Ok stmt → count 64 stmt ≤ length text

-- Statements read from texts of fewer than 2 ^ 32 bytes in all are readable.
abbrev pub ReadIsReadable : Type 0
ReadIsReadable = (texts : List Text) (stmts : List Stmt) → map read texts ≡ map Ok stmts → sum_by length texts < 2 ^ 32 → IsTrue (are_readable stmts)
