use Rattle.std.proofs.Common.{rules, ◌≡◌, true, false, sym, ap, ◌∙◌}
use Rattle.std.specs.BTreeSet.{contains}
use Rattle.sal_rules.specs.Rules.{has_double}
use Rattle.sal_check.specs.Uniques.{Key, key_cmp}
use Rattle.sal_check.proofs.Doubles.{double-found, double-none, holds-more, all-all}
use Rattle.sal_check.proofs.unique.has_double.Goals as goal

pub returns-then-not-branch : goal.returns-then-not-branch
returns-then-not-branch c =
    let v : Key = c.as_slice.result in
    let has : contains key_cmp c.loop-cells.seen v ≡ true = search rules in
    double-found c.args.combinations.now c.loop-cells.cells-index c.cells-item.result v c.as_slice.ensures.value c.loop-cells-test.true c.cells-item.is c.loop-cells.seen c.loop-cells.invariant.holds has

pub loop-cells-preserved : goal.loop-cells-preserved
loop-cells-preserved c =
    let v : Key = c.as_slice.result in
    let new : contains key_cmp c.loop-cells.seen v ≡ false = search rules in
    record {
      holds = holds-more c.args.combinations.now c.loop-cells.cells-index c.cells-item.result v c.as_slice.ensures.value c.loop-cells-test.true c.cells-item.is c.loop-cells.seen c.insert.new.self c.loop-cells.invariant.holds (λ q. c.in_ok-insert.ensures.updates.0 q);
      none = double-none c.args.combinations.now c.loop-cells.cells-index c.cells-item.result v c.as_slice.ensures.value c.loop-cells-test.true c.cells-item.is c.loop-cells.seen c.loop-cells.invariant.holds c.loop-cells.invariant.none new;
    }

pub returns : goal.returns
returns c = sym (ap has_double (sym (all-all c.args.combinations.now c.loop-cells.cells-index c.loop-cells-test.false)) ∙ c.loop-cells.invariant.none)
