-- The nodes so far: their keys, and the least fault.
use Rattle.std.proofs.Common.{◌≡◌, take, is_some, None}
use Rattle.std.specs.BTreeMap.{get}
use Rattle.sal_module.specs.Faults.{least}
use Rattle.sal_grouping.specs.declared.children.Key.{Key}
use Rattle.sal_grouping.specs.Children.{key_cmp, first_with, node_faults}
use Rattle.sal_grouping.proofs.Places.{numbered}
use Rattle.sal_grouping.proofs.children.child_fault.Given as goal

abbrev pub invariant-loop-k : goal.invariant-loop-k
invariant-loop-k l =
    record {
      known : (q : Key) → is_some (get key_cmp l.map q) ≡ is_some (first_with l.rows l.nodes q (take l.k l.nodes));
      fault : l.best ≡ least None (numbered (node_faults l.rows l.nodes) 0 (take l.k l.nodes));
    }
