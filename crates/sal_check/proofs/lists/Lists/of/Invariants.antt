-- Each list has those of the nodes so far that are judged in it, and it is known whether one of them states a rule.
use Rattle.std.proofs.Common.{◌≡◌, ℕ, ◌+◌, ◌<◌, length, get_or}
use Rattle.std.specs.List.{filter, list_any}
use Rattle.std.specs.declared.alloc.Global.{Global}
use Rattle.std.specs.declared.vec.Vec.{Vec}
use Rattle.sal_rules.specs.Breaches.{first}
use Rattle.sal_check.specs.Nodes.{states, is_judged_in}
use Rattle.sal_check.proofs.lists.Lists.of.Given as goal

abbrev pub invariant-loop-number : goal.invariant-loop-number
invariant-loop-number l = record {
  count : length l.lists.items ≡ length l.schema.nodes + 1;
  each : (k : ℕ) (d : Vec ℕ Global) → k < length l.schema.nodes + 1 → (get_or l.lists.items k d).items ≡ filter (is_judged_in l.schema k) (first l.number);
  any : l.any ≡ list_any (states l.schema) (first l.number);
}
