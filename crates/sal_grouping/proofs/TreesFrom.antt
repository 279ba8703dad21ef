-- The nodes of the modules from a number on: what one module more adds.
use Rattle.std.proofs.Common.{◌≡◌, ℕ, zero, suc, ◌+◌, ◌-◌, ◌<◌, ◌≤◌, List, length, Option, None, refl, ap, arith}
use Rattle.sal_stmt.specs.declared.stmt.Stmt.{Stmt}
use Rattle.sal_grouping.specs.declared.rows.Row.{Row}
use Rattle.sal_grouping.specs.declared.node.Node.{Node}
use Rattle.sal_grouping.specs.Growth.{module_grown, seeds_in}
use Rattle.sal_grouping.specs.Rows.{top_of}
use Rattle.sal_grouping.specs.Versions.{trees_from}
use Rattle.sal_grouping.proofs.FrameLists.{grown-length}

module _ (stmts : List Stmt) (rows : List Row) (named : List (Option ℕ)) (old : ℕ) (before : List Node) where
  pub from-none : trees_from 0 stmts rows named old before ≡ before
  unfolding trees_from
  from-none = refl

  from-suc : (n : ℕ) → trees_from (suc n) stmts rows named old before ≡ module_grown stmts rows named (trees_from n stmts rows named old before) (old + n)
  unfolding trees_from
  from-suc n = refl

  pub from-more : (n m : ℕ) → m ≡ old + n → trees_from (n + 1) stmts rows named old before ≡ module_grown stmts rows named (trees_from n stmts rows named old before) m
  from-more n m e = let next : n + 1 ≡ suc n = omega arith in rw (next, e) (from-suc n)

  from-length : (n j : ℕ) → length (trees_from n stmts rows named old before) ≤ length (trees_from (n + j) stmts rows named old before)
  from-length n zero = let none : n + 0 ≡ n = omega arith in rw none (omega arith)
  from-length n (suc j) =
      let more : n + suc j ≡ suc (n + j) = omega arith in
      let m = old + (n + j) in
      rw (more, from-suc (n + j)) (omega (arith, from-length n j, grown-length rows named m None (trees_from (n + j) stmts rows named old before) (seeds_in rows named None (top_of stmts m))))

  -- past the limit after one more
  pub from-past : (n m all : ℕ) → m ≡ old + n → n < all → 65536 < length (module_grown stmts rows named (trees_from n stmts rows named old before) m) → 65536 < length (trees_from all stmts rows named old before)
  from-past n m all e h past =
      let there : n + 1 + (all - (n + 1)) ≡ all = omega arith in
      let here = ap length (from-more n m e) in
      let last = ap (λ k. length (trees_from k stmts rows named old before)) there in
      omega (arith, from-length (n + 1) (all - (n + 1)), here, last, past)
