-- The nodes so far, from the last one.
use Rattle.std.proofs.Common.{◌≡◌}
use Rattle.std.specs.BTreeMap.{get}
use Rattle.sal_module_table.specs.declared.child.Key.{Key}
use Rattle.sal_module_table.specs.Children.{key_cmp, data_key, is_found_by}
use Rattle.sal_grouping.specs.declared.forest.Branch.{Branch}
use Rattle.sal_module_table.proofs.FromLast.{first_of_last}
use Rattle.sal_module_table.proofs.child.data_children_of.Given as goal

abbrev pub invariant-loop-done : goal.invariant-loop-done
invariant-loop-done l = (q : Key) → get key_cmp l.map q ≡ first_of_last (λ (b : Branch). is_found_by q (data_key l.modules l.forest b)) l.forest l.done
