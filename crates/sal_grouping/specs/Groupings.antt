-- Which grouping a `uses` names (RFC 7950 sections 5.5, 6.2.1 and 7.13).
use Rattle.std.specs.Prelude.{ℕ, zero, suc, ◌+◌, Bool, ◌==◌, nat_lt, List, map, length, take, drop, Option, Some, None, is_some, if◌then◌else◌}
use Rattle.std.specs.List.{slice_split}
use Rattle.sal_stmt.specs.Words.{colon_at}
use Rattle.sal_stmt.specs.declared.stmt.Stmt.{Stmt}
use Rattle.sal_module.specs.declared.keyword.Keyword.TheVariants.{Grouping, Uses}
use Rattle.sal_module.specs.Keywords.{same_keyword}
use Rattle.sal_module.specs.Modules.{imported}
use Rattle.sal_grouping.specs.declared.rows.Row.{Row}
use Rattle.sal_grouping.specs.Rows.{top_of, around_of, first_of}

-- ---- names with and without a prefix

abbrev pub has_prefix : List ℕ → Bool
has_prefix text = nat_lt (colon_at text) (length text)

-- the module that a name in module m refers to: without a prefix it is m
abbrev pub module_of : List Stmt → ℕ → List ℕ → Option ℕ
module_of stmts m text = if has_prefix text then imported stmts m (take (colon_at text) text) else Some m

abbrev pub local_name : List ℕ → List ℕ
local_name text = if has_prefix text then drop (colon_at text + 1) text else text

-- a name and its module, if its prefix is known
abbrev pub Step : Type 0
Step = Option ℕ × List ℕ

abbrev pub step_of : List Stmt → ℕ → List ℕ → Step
step_of stmts m text = (module_of stmts m text, local_name text)

-- the names in a path, each after a `/`
abbrev pub path_of : List Stmt → Row → List Step
path_of stmts row = map (step_of stmts row.module) (drop 1 (slice_split (λ c. c == 47) row.name))

-- ---- look-ups

-- the grouping of this name in the closest of at most n blocks, from this block outwards
unfoldable pub from_block : ℕ → List Row → List ℕ → Option ℕ → Option ℕ
from_block zero rows name block = None
from_block (suc n) rows name None = None
from_block (suc n) rows name (Some b) =
    if is_some (first_of rows Grouping b name) then first_of rows Grouping b name else from_block n rows name (around_of rows b)

-- In its own module a grouping is looked for from the block outwards, in another one only at its top.
abbrev pub grouping_in : List Stmt → List Row → ℕ → Option ℕ → List ℕ → Option ℕ → Option ℕ
grouping_in stmts rows m block name None = None
grouping_in stmts rows m block name (Some k) = if k == m then from_block 65 rows name block else first_of rows Grouping (top_of stmts k) name

-- the grouping that a name in a block of module m names
abbrev pub grouping_of : List Stmt → List Row → ℕ → Option ℕ → List ℕ → Option ℕ
grouping_of stmts rows m block text = grouping_in stmts rows m block (local_name text) (module_of stmts m text)

-- the grouping that a `uses` names
abbrev pub named_by : List Stmt → List Row → Row → Option ℕ
named_by stmts rows row = if same_keyword row.keyword Uses then grouping_of stmts rows row.module row.around row.name else None

-- of each statement, the grouping that it names
abbrev pub named_of : List Stmt → List Row → List (Option ℕ)
named_of stmts rows = map (named_by stmts rows) rows
