-- Lists of rows, from one statement to the next.
use Rattle.std.proofs.Common.{◌≡◌, ℕ, zero, suc, ◌+◌, ◌-◌, ◌<◌, ◌==◌, true, false, List, [], ◌∷◌, ◌++◌, fold, length, take, get_or, Option, Some, None, refl, ◌∙◌, ap, arith}
use Rattle.std.specs.List.{enumerate_from}
use Rattle.std.proofs.lemmas.List.{take_more, length-take}
use Rattle.sal_stmt.specs.declared.stmt.Stmt.{Stmt}
use Rattle.sal_module.specs.declared.keyword.Keyword.{Keyword}
use Rattle.sal_module.specs.Statements.{subs_of}
use Rattle.sal_grouping.specs.declared.rows.Row.{Row}
use Rattle.sal_grouping.specs.Rows.{part_of, row_of, with_rows, rows_of}

-- the rows of a block, this many levels deep
abbrev pub in_block : ℕ → ℕ → ℕ → List Row → List Stmt → List Row
in_block levels m number rows subs = fold (λ below sub. with_rows levels m (Some number) below sub) rows subs

pub with_rows-none : (levels m : ℕ) (around : Option ℕ) (rows : List Row) (stmt : Stmt) → part_of stmt ≡ None → with_rows levels m around rows stmt ≡ rows
unfolding with_rows
with_rows-none zero m around rows stmt e = rw e refl
with_rows-none (suc levels) m around rows stmt e = rw e refl

pub with_rows-last : (m : ℕ) (around : Option ℕ) (rows : List Row) (stmt : Stmt) (keyword : Keyword) → part_of stmt ≡ Some keyword
    → with_rows 0 m around rows stmt ≡ rows ++ row_of m around stmt keyword ∷ []
unfolding with_rows
with_rows-last m around rows stmt keyword e = rw e refl

with_rows-suc : (levels m : ℕ) (around : Option ℕ) (rows : List Row) (stmt : Stmt) (keyword : Keyword) → part_of stmt ≡ Some keyword
    → with_rows (suc levels) m around rows stmt ≡ in_block levels m (length rows) (rows ++ row_of m around stmt keyword ∷ []) (subs_of stmt)
unfolding with_rows
with_rows-suc levels m around rows stmt keyword e = rw e refl

pub with_rows-more : (levels m : ℕ) (around : Option ℕ) (rows : List Row) (stmt : Stmt) (keyword : Keyword) → (levels == 0) ≡ false → part_of stmt ≡ Some keyword
    → with_rows levels m around rows stmt ≡ in_block (levels - 1) m (length rows) (rows ++ row_of m around stmt keyword ∷ []) (subs_of stmt)
with_rows-more zero m around rows stmt keyword h e = absurd (let no : true ≡ false = h in cc)
with_rows-more (suc levels) m around rows stmt keyword h e = let less : suc levels - 1 ≡ levels = omega arith in rw less (with_rows-suc levels m around rows stmt keyword e)

-- ---- one more module

abbrev rows_from : ℕ → List Row → List Stmt → List Row
rows_from n rows stmts = fold (λ rows (m, stmt). with_rows 64 m None rows stmt) rows (enumerate_from n stmts)

rows_from-last : (n : ℕ) (rows : List Row) (stmts : List Stmt) (stmt : Stmt) → rows_from n rows (stmts ++ stmt ∷ []) ≡ with_rows 64 (n + length stmts) None (rows_from n rows stmts) stmt
rows_from-last n rows [] stmt = let here : n + 0 ≡ n = omega arith in rw here refl
rows_from-last n rows (s ∷ stmts) stmt =
    let there : n + 1 + length stmts ≡ n + length (s ∷ stmts) = omega arith in
    rows_from-last (n + 1) (with_rows 64 n None rows s) stmts stmt ∙ ap (λ m. with_rows 64 m None (rows_from (n + 1) (with_rows 64 n None rows s) stmts) stmt) there

pub rows_of-take : (stmts : List Stmt) (i : ℕ) (d : Stmt) → i < length stmts → rows_of (take (i + 1) stmts) ≡ with_rows 64 i None (rows_of (take i stmts)) (get_or stmts i d)
rows_of-take stmts i d h =
    let here : 0 + length (take i stmts) ≡ i = omega (arith, length-take i stmts) in
    ap rows_of (take_more stmts i d h) ∙ rows_from-last 0 [] (take i stmts) (get_or stmts i d)
    ∙ ap (λ m. with_rows 64 m None (rows_of (take i stmts)) (get_or stmts i d)) here
