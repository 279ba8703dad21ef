-- Each upgrade gives one more version, or its fault ends all.
use Rattle.std.proofs.Common.{rules, ◌≡◌, ℕ, ◌+◌, ◌≤◌, List, [], Result, map, drop, length, Ok, IsTrue, ap, sym, subst, ◌∙◌}
use Rattle.std.proofs.lemmas.List.{drop_all}
use Rattle.sal_types.specs.Reading.{◌>>=◌}
use Rattle.sal_stmt.specs.declared.fault.StmtFault.{StmtFault}
use Rattle.sal_stmt.specs.declared.stmt.Stmt.{Stmt}
use Rattle.sal_stmt.specs.Text.{read}
use Rattle.sal_script.specs.Limits.{are_short}
use Rattle.sal_versions.specs.Versions.{Versions, first_of, next_of, or_upgrade, seen, upgraded, versions_of}
use Rattle.sal_versions.proofs.Statements.{makes_err}
use Rattle.sal_versions.proofs.VersionTexts.{goes, next-read, next-readable, next-short, stops, version-0-read, version-0-short}
use Rattle.sal_versions.proofs.versions.versions_of.Goals as goal

abbrev as_read : List Stmt → List (Result Stmt StmtFault)
as_read stmts = map Ok stmts

pub first_of-requires : goal.first_of-requires
first_of-requires c = version-0-short c.args.modules.now c.args.upgrades.now c.requires

pub upgraded-requires-clause-short : goal.upgraded-requires-clause-short
upgraded-requires-clause-short c =
    subst (λ (texts : List (List ℕ)). IsTrue (are_short texts)) (sym c.items.ensures)
    (next-short c.args.modules.now c.args.upgrades.now c.loop-i.i c.index-upgrades-i.result c.loop-i-test.true c.index-upgrades-i.is c.requires)

pub upgraded-requires-clause-readable : goal.upgraded-requires-clause-readable
upgraded-requires-clause-readable c = λ more now.
    next-readable c.args.modules.now c.args.upgrades.now c.loop-i.i c.index-upgrades-i.result c.loop-i-test.true c.index-upgrades-i.is
    c.what_is_read_is_readable.ensures c.requires c.loop-i.versions.stmts.items c.loop-i.invariant.read more (sym (ap (map read) c.items.ensures) ∙ now)

pub loop-i-init : goal.loop-i-init
loop-i-init c =
    let modules = c.args.modules.now in
    let upgrades = c.args.upgrades.now in
    let own = c.in_ok-versions.ensures in
    record {
      made = ap (λ (r : Result Versions (List ℕ)). r >>= (λ versions. upgraded 1 versions upgrades)) (sym own.made);
      of = own.of;
      read = version-0-read modules c.in_ok-versions.versions.stmts.items own.read;
    }

pub loop-i-preserved : goal.loop-i-preserved
loop-i-preserved c =
    let texts = c.index-upgrades-i.result in
    let i = c.loop-i.i in
    let it = c.in_ok-versions-2.ensures.read in
    record {
      made =
          goes c.args.modules.now c.args.upgrades.now i texts c.loop-i-test.true c.index-upgrades-i.is (seen c.loop-i.versions) (seen c.in_ok-versions-2.versions)
          (versions_of c.args.modules.now c.args.upgrades.now)
          (ap (λ (now : List (List ℕ)). or_upgrade (i + 1) (next_of (seen c.loop-i.versions) now)) (sym c.items.ensures) ∙ c.in_ok-versions-2.ensures.made) c.loop-i.invariant.made;
      of = c.in_ok-versions-2.ensures.of;
      read =
          next-read c.args.modules.now c.args.upgrades.now i texts c.loop-i-test.true c.index-upgrades-i.is c.loop-i.versions.stmts.items it.0 c.loop-i.invariant.read
          (sym (ap (map read) c.items.ensures) ∙ it.1)
          ∙ ap as_read (sym it.2);
    }

pub returns : goal.returns
returns c =
    let l = c.loop-i in
    let upgrades = c.args.upgrades.now in
    let past : length upgrades ≤ l.i = search rules in
    sym l.invariant.made ∙ ap (upgraded (l.i + 1) (seen l.versions)) (drop_all l.i upgrades past)
