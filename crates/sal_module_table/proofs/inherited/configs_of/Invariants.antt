-- The values of the nodes so far.
use Rattle.std.proofs.Common.{◌≡◌, ℕ, ◌<◌, length, get_or, Bool, true, Option, Some}
use Rattle.sal_module_table.specs.Inherited.{from_above, with_config}
use Rattle.sal_module_table.proofs.inherited.configs_of.Given as goal

abbrev pub invariant-loop-k : goal.invariant-loop-k
invariant-loop-k l =
    record {
      count : length l.all.items ≡ l.k;
      each : (m : ℕ) (d : Option Bool) → m < l.k → get_or l.all.items m d ≡ from_above (with_config l.modules) (Some true) l.forest m;
    }
