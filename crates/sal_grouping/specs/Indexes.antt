-- The indexes of the list of statements.
use Rattle.std.specs.Prelude.{◌≡◌, ℕ, ◌<◌, List, [], map, length, Option, slice_index_or, if◌then◌else◌, String, Vec}
use Rattle.std.specs.declared.alloc.Global.{Global}
use Rattle.std.specs.BTreeMap.{BTreeMap, get_by_text}
use Rattle.sal_stmt.specs.declared.stmt.Stmt.{Stmt}
use Rattle.sal_module.specs.declared.keyword.Keyword.{Keyword}
pub use Rattle.sal_module.specs.Firsts.{with_first}
use Rattle.sal_grouping.specs.declared.rows.Row.{Row}
use Rattle.sal_grouping.specs.Rows.{top_of, option_list, is_block, all_inside, first_defined}

-- lists as lists
abbrev pub lists : List (Vec ℕ Global) → List (List ℕ)
lists all = map (λ (v : Vec ℕ Global). v.items) all

-- the numbers of names
abbrev pub Names : Type 0
Names = BTreeMap (String Global) ℕ

-- a value in the list of its key
abbrev pub picked : ℕ → Option ℕ → Option ℕ → List ℕ
picked b key value = if is_block b key then option_list value else []

-- each module's first statement
pub record AreTops (stmts : List Stmt) (tops : List ℕ) : Type 0 where
  pub count : length tops ≡ length stmts
  pub each : (m d : ℕ) → m < length stmts → slice_index_or tops m d ≡ top_of stmts m

-- the statements in each block
pub record AreInside (rows : List Row) (all : List (List ℕ)) : Type 0 where
  pub count : length all ≡ length rows
  pub each : (b : ℕ) → b < length rows → slice_index_or all b [] ≡ all_inside rows b

-- the first definition of each name in each block
pub record AreFirsts (rows : List Row) (keyword : Keyword) (maps : List Names) : Type 0 where
  pub count : length maps ≡ length rows
  pub each : (b : ℕ) (d : Names) → b < length rows → (q : List ℕ) → get_by_text (slice_index_or maps b d) q ≡ first_defined rows keyword b q
