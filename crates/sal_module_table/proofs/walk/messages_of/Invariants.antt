-- The values of the nodes so far.
use Rattle.std.proofs.Common.{◌≡◌, ℕ, ◌<◌, length, get_or, Option, None}
use Rattle.sal_module_table.specs.Inherited.{from_above}
use Rattle.sal_module_table.specs.Leafrefs.{with_message}
use Rattle.sal_module_table.proofs.walk.messages_of.Given as goal

abbrev pub invariant-loop-k : goal.invariant-loop-k
invariant-loop-k l =
    record {
      count : length l.all.items ≡ l.k;
      each : (m : ℕ) (d : Option ℕ) → m < l.k → get_or l.all.items m d ≡ from_above (with_message l.modules) None l.forest m;
    }
