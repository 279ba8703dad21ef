-- The statements that form the tree, or define a name for it, in one list over all modules. A statement's number is its index there.
use Rattle.std.specs.Prelude.{ℕ, zero, suc, Bool, true, false, ◌&&◌, ◌==◌, nat_lt, List, [], ◌∷◌, ◌++◌, fold, length, take, Option, Some, None, is_none, option_and_then, option_map, if◌then◌else◌}
use Rattle.std.specs.List.{slice_get, enumerate_from, position_from, flat_map}
use Rattle.sal_stmt.specs.declared.stmt.Stmt.{Stmt, out-Stmt}
use Rattle.sal_module.specs.declared.keyword.Keyword.{Keyword}
use Rattle.sal_module.specs.declared.keyword.Keyword.TheVariants.{Module, Container, Leaf, LeafList, List as ListOf, Choice, Case, Grouping, Uses, Augment, Rpc, Input, Output, Notification, Typedef, Identity}
use Rattle.sal_module.specs.Keywords.{same, same_keyword, keyword_of}
use Rattle.sal_module.specs.Statements.{subs_of, argument_of}
use Rattle.sal_grouping.specs.declared.rows.Row.{Row}

-- ---- which statements

-- nodes of the tree, statements that have or add nodes, and definitions of names
abbrev pub is_part : Keyword → Bool
is_part Module = true
is_part Container = true
is_part Leaf = true
is_part LeafList = true
is_part ListOf = true
is_part Choice = true
is_part Case = true
is_part Grouping = true
is_part Uses = true
is_part Augment = true
is_part Rpc = true
is_part Input = true
is_part Output = true
is_part Notification = true
is_part Typedef = true
is_part Identity = true
is_part keyword = false

abbrev pub part_among : Option Keyword → Option Keyword
part_among None = None
part_among (Some keyword) = if is_part keyword then Some keyword else None

-- the keyword of a statement that is one of them
abbrev pub part_of : Stmt → Option Keyword
part_of stmt = part_among (keyword_of (out-Stmt stmt).keyword)

-- ---- the list

-- A row has the module, the number of the statement around it, its keyword, its argument and its offset.
abbrev pub row_of : ℕ → Option ℕ → Stmt → Keyword → Row
row_of m around stmt keyword = record { «module» = m; around = around; keyword = keyword; name = argument_of stmt; at = (out-Stmt stmt).at }

abbrev pub with_row : ℕ → Option ℕ → List Row → Stmt → Option Keyword → List Row
with_row m around rows stmt None = rows
with_row m around rows stmt (Some keyword) = rows ++ row_of m around stmt keyword ∷ []

-- These rows, then a statement and those in `levels` levels below it, in the order of the text.
-- A statement of another keyword is skipped with all that is in it: extensions and statements with a prefix are such.
unfoldable pub with_rows : ℕ → ℕ → Option ℕ → List Row → Stmt → List Row
with_rows zero m around rows stmt = with_row m around rows stmt (part_of stmt)
with_rows (suc levels) m around rows stmt =
    if is_none (part_of stmt) then rows
    else fold (λ below sub. with_rows levels m (Some (length rows)) below sub) (with_row m around rows stmt (part_of stmt)) (subs_of stmt)

-- Blocks are nested at most 64 deep, so no statement is on a lower level.
abbrev pub rows_of : List Stmt → List Row
rows_of stmts = fold (λ rows (m, stmt). with_rows 64 m None rows stmt) [] (enumerate_from 0 stmts)

-- the number of a module's first statement: the length of the rows of the modules before it
abbrev pub top_of : List Stmt → ℕ → ℕ
top_of stmts m = length (rows_of (take m stmts))

-- ---- blocks

abbrev pub option_list : {X : Type 0} → Option X → List X
option_list None = []
option_list (Some x) = x ∷ []

abbrev pub is_block : ℕ → Option ℕ → Bool
is_block b None = false
is_block b (Some around) = around == b

-- the row is directly in this block
abbrev pub is_inside : ℕ → Row → Bool
is_inside b row = is_block b row.around

-- the numbers of all rows that are
abbrev pub all_inside : List Row → ℕ → List ℕ
all_inside rows b = flat_map (λ (entry : ℕ × Row). if is_inside b entry.1 then entry.0 ∷ [] else []) (enumerate_from 0 rows)

abbrev pub is_number : List Row → ℕ → Bool
is_number rows b = nat_lt b (length rows)

-- those of a block in this list
abbrev pub inside : List Row → ℕ → List ℕ
inside rows b = if is_number rows b then all_inside rows b else []

abbrev pub around_of : List Row → ℕ → Option ℕ
around_of rows k = option_and_then (λ (row : Row). row.around) (slice_get rows k)

abbrev pub keyword_at : List Row → ℕ → Option Keyword
keyword_at rows k = option_map (λ (row : Row). row.keyword) (slice_get rows k)

abbrev pub is_keyword : Keyword → Option Keyword → Bool
is_keyword keyword None = false
is_keyword keyword (Some other) = same_keyword other keyword

-- the row has this keyword and name, and is directly in this block
abbrev pub defines : Keyword → ℕ → List ℕ → Row → Bool
defines keyword b name row = (is_inside b row && same_keyword row.keyword keyword) && same row.name name

-- the first such row
abbrev pub first_defined : List Row → Keyword → ℕ → List ℕ → Option ℕ
first_defined rows keyword b name = position_from (defines keyword b name) 0 rows

-- and, in a block of this list, the row that a name refers to
abbrev pub first_of : List Row → Keyword → ℕ → List ℕ → Option ℕ
first_of rows keyword b name = if is_number rows b then first_defined rows keyword b name else None
