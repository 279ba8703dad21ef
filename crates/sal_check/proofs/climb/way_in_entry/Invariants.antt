-- The rest of the climb gives the whole path.
use Rattle.std.proofs.Common.{◌≡◌, ◌-◌, length}
use Rattle.sal_rules.specs.Contexts.{way_in_entry, from_list}
use Rattle.sal_check.proofs.climb.way_in_entry.Given as goal

abbrev pub invariant-loop-done : goal.invariant-loop-done
invariant-loop-done l = from_list l.schema (length l.schema.nodes - l.done) l.here l.steps.items ≡ way_in_entry l.schema l.leaf
