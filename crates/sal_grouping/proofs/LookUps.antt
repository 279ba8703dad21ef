-- Look-ups, from one block to the next.
use Rattle.std.proofs.Common.{◌≡◌, ℕ, zero, suc, ◌-◌, ◌==◌, true, false, List, Option, Some, None, is_some, if◌then◌else◌, refl, arith}
use Rattle.sal_module.specs.declared.keyword.Keyword.TheVariants.{Grouping}
use Rattle.sal_grouping.specs.declared.rows.Row.{Row}
use Rattle.sal_grouping.specs.Rows.{around_of, first_of, keyword_at, is_keyword}
use Rattle.sal_grouping.specs.Names.{home}
use Rattle.sal_grouping.specs.Groupings.{from_block}

pub from_block-zero : (rows : List Row) (name : List ℕ) (block : Option ℕ) → from_block 0 rows name block ≡ None
unfolding from_block
from_block-zero rows name block = refl

pub from_block-none : (n : ℕ) (rows : List Row) (name : List ℕ) → from_block n rows name None ≡ None
unfolding from_block
from_block-none zero rows name = refl
from_block-none (suc n) rows name = refl

from_block-suc : (n : ℕ) (rows : List Row) (name : List ℕ) (b : ℕ) → from_block (suc n) rows name (Some b)
    ≡ (if is_some (first_of rows Grouping b name) then first_of rows Grouping b name else from_block n rows name (around_of rows b))
unfolding from_block
from_block-suc n rows name b = refl

pub from_block-more : (n : ℕ) (rows : List Row) (name : List ℕ) (b : ℕ) → (n == 0) ≡ false → from_block n rows name (Some b)
    ≡ (if is_some (first_of rows Grouping b name) then first_of rows Grouping b name else from_block (n - 1) rows name (around_of rows b))
from_block-more zero rows name b h = absurd (let no : true ≡ false = h in cc)
from_block-more (suc n) rows name b h = let less : suc n - 1 ≡ n = omega arith in rw less (from_block-suc n rows name b)

pub from_block-found : (n : ℕ) (rows : List Row) (name : List ℕ) (block : Option ℕ) (b found : ℕ) → (n == 0) ≡ false → block ≡ Some b → Some found ≡ first_of rows Grouping b name
    → Some found ≡ from_block n rows name block
from_block-found n rows name block b found h is first = rw is (rw (from_block-more n rows name b h) (rw (← first) refl))

pub from_block-next : (n : ℕ) (rows : List Row) (name : List ℕ) (block : Option ℕ) (b : ℕ) → (n == 0) ≡ false → block ≡ Some b → None ≡ first_of rows Grouping b name
    → from_block (n - 1) rows name (around_of rows b) ≡ from_block n rows name block
from_block-next n rows name block b h is first = rw is (rw (from_block-more n rows name b h) (rw (← first) refl))

-- ---- homes

pub home-zero : (rows : List Row) (block : Option ℕ) → home 0 rows block ≡ None
unfolding home
home-zero rows block = refl

pub home-none : (n : ℕ) (rows : List Row) → home n rows None ≡ None
unfolding home
home-none zero rows = refl
home-none (suc n) rows = refl

home-suc : (n : ℕ) (rows : List Row) (b : ℕ) → home (suc n) rows (Some b) ≡ (if is_keyword Grouping (keyword_at rows b) then Some b else home n rows (around_of rows b))
unfolding home
home-suc n rows b = refl

home-more : (n : ℕ) (rows : List Row) (b : ℕ) → (n == 0) ≡ false → home n rows (Some b) ≡ (if is_keyword Grouping (keyword_at rows b) then Some b else home (n - 1) rows (around_of rows b))
home-more zero rows b h = absurd (let no : true ≡ false = h in cc)
home-more (suc n) rows b h = let less : suc n - 1 ≡ n = omega arith in rw less (home-suc n rows b)

pub home-here : (n : ℕ) (rows : List Row) (block : Option ℕ) (b : ℕ) → (n == 0) ≡ false → block ≡ Some b → is_keyword Grouping (keyword_at rows b) ≡ true → Some b ≡ home n rows block
home-here n rows block b h is e = rw is (rw (home-more n rows b h) (rw e refl))

pub home-next : (n : ℕ) (rows : List Row) (block : Option ℕ) (b : ℕ) → (n == 0) ≡ false → block ≡ Some b → is_keyword Grouping (keyword_at rows b) ≡ false
    → home (n - 1) rows (around_of rows b) ≡ home n rows block
home-next n rows block b h is e = rw is (rw (home-more n rows b h) (rw e refl))
