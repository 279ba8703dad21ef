-- The versions so far, and then the other upgrades.
use Rattle.std.proofs.Common.{◌≡◌, ◌+◌, List, Result, map, take, drop, Ok}
use Rattle.sal_stmt.specs.declared.fault.StmtFault.{StmtFault}
use Rattle.sal_stmt.specs.declared.stmt.Stmt.{Stmt}
use Rattle.sal_stmt.specs.Text.{read}
use Rattle.sal_script.specs.Limits.{all_texts}
use Rattle.sal_build.specs.Versions.{IsVersionOf, tabled}
use Rattle.sal_versions.specs.Versions.{seen, upgraded, versions_of}
use Rattle.sal_versions.proofs.versions.versions_of.Given as goal

abbrev pub invariant-loop-i : goal.invariant-loop-i
invariant-loop-i l = record {
  made : upgraded (l.i + 1) (seen l.versions) (drop l.i l.upgrades) ≡ versions_of l.modules l.upgrades;
  of : IsVersionOf l.versions.stmts.items (tabled l.versions.latest);
  read : ◌≡◌ {A = List (Result Stmt StmtFault)} (map read (all_texts l.modules (take l.i l.upgrades))) (map Ok l.versions.stmts.items);
}
