-- The rows of a statement that is made of its parts.
use Rattle.std.proofs.Common.{◌≡◌, ℕ, suc, List, [], ◌∷◌, ◌++◌, fold, length, Option, Some, None, is_none, unwrap_or, if◌then◌else◌, refl}
use Rattle.sal_stmt.specs.declared.stmt.Stmt.{Stmt, roll-Stmt}
use Rattle.sal_stmt.specs.declared.stmt.Stmt.TheViews.{out-roll-Stmt}
use Rattle.sal_module.specs.declared.keyword.Keyword.{Keyword}
use Rattle.sal_module.specs.Keywords.{keyword_of}
use Rattle.sal_grouping.specs.declared.rows.Row.{Row}
use Rattle.sal_module.specs.Statements.{subs_of}
use Rattle.sal_grouping.specs.Rows.{part_among, with_row, with_rows}

abbrev pub with_plain : ℕ → Option ℕ → List Row → List ℕ → ℕ → Option Keyword → List Row
with_plain m around rows name at None = rows
with_plain m around rows name at (Some keyword) = rows ++ record { «module» = m; around = around; keyword = keyword; name = name; at = at } ∷ []

with_row-roll : (m : ℕ) (around : Option ℕ) (rows : List Row) (keyword : List ℕ) (arg : Option (List ℕ)) (at : ℕ) (subs : List Stmt) (part : Option Keyword)
    → with_row m around rows (roll-Stmt (record { keyword = keyword; arg = arg; at = at; subs = subs })) part ≡ with_plain m around rows (unwrap_or arg []) at part
with_row-roll m around rows keyword arg at subs None = refl
with_row-roll m around rows keyword arg at subs (Some k) = simp out-roll-Stmt

pub with_rows-roll : (levels m : ℕ) (around : Option ℕ) (rows : List Row) (keyword : List ℕ) (arg : Option (List ℕ)) (at : ℕ) (subs : List Stmt)
    → with_rows (suc levels) m around rows (roll-Stmt (record { keyword = keyword; arg = arg; at = at; subs = subs }))
    ≡ (
    if is_none (part_among (keyword_of keyword)) then rows
    else fold (λ below sub. with_rows levels m (Some (length rows)) below sub) (with_plain m around rows (unwrap_or arg []) at (part_among (keyword_of keyword))) subs
    )
unfolding with_rows
with_rows-roll levels m around rows keyword arg at subs = simp (out-roll-Stmt, subs_of, with_row-roll)
