-- One version more went.
use Rattle.std.proofs.Common.{◌≡◌, suc, ◌+◌, ◌-◌, List, drop, ap, sym, ◌∙◌, arith}
use Rattle.std.proofs.lemmas.List.{drop-drop}
use Rattle.sal_schema.specs.declared.table.SchemaTable.{SchemaTable}
use Rattle.sal_history.specs.World.{version_from}
use Rattle.sal_commit.specs.Versions.{tables_of}
use Rattle.sal_commit.proofs.Begun.{one-version}
use Rattle.sal_commit.proofs.VersionTables.{version-first}
use Rattle.sal_commit.proofs.anew.drop_versions.Goals as goal

pub loop-preserved : goal.loop-preserved
loop-preserved c =
    let rest = c.args.version - (c.loop.counter + 1) in
    let tables : List SchemaTable = tables_of c.loop.upgrades.items in
    let next : suc rest ≡ c.args.version - c.loop.counter = omega (arith, c.loop-test.true) in
    record {
      first =
          (λ i. version_from (c.drop_first.ensures.first i) (c.drop_first.ensures.upgrades i) rest) ∙ one-version c.loop.first.value tables rest
          ∙ ap (version_from c.loop.first.value tables) next ∙ c.loop.invariant.first;
      upgrades = c.drop_first.ensures.upgrades ∙ ap (λ (ts : List SchemaTable). drop 1 ts) c.loop.invariant.upgrades ∙ drop-drop 1 c.loop.counter (tables_of c.args.upgrades.now.items);
    }

pub returns-clause-first : goal.returns-clause-first
returns-clause-first c =
    let tables : List SchemaTable = tables_of c.loop.upgrades.items in
    let none : c.args.version - c.loop.counter ≡ 0 = omega (arith, c.loop-test.false) in
    sym (version-first c.loop.first.value tables) ∙ ap (version_from c.loop.first.value tables) (sym none) ∙ c.loop.invariant.first
