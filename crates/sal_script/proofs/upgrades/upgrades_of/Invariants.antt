use Rattle.std.proofs.Common.{◌≡◌, drop, codes}
use Rattle.sal_script.specs.Script.{texts_in}
use Rattle.sal_script.proofs.Each.{each_from, before}
use Rattle.sal_script.proofs.Readers.{item_at}
use Rattle.sal_script.proofs.upgrades.upgrades_of.Given as goal

abbrev pub invariant-loop-value : goal.invariant-loop-value
invariant-loop-value l =
    before l.upgrades.items (each_from (item_at texts_in (codes "upgrades")) l.value-index (drop l.value-index l.list)) ≡ each_from (item_at texts_in (codes "upgrades")) 0 l.list
