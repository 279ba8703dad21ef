use Rattle.std.proofs.Common.{◌≡◌, ◌≤◌, ◌++◌, ◌-◌, max}
use Rattle.std.specs.Prelude.{map}
use Rattle.std.specs.List.{flat_map, range_with_len}
use Rattle.sal_draw.specs.Acts.{made_acts, made_in}
use Rattle.sal_draw.proofs.acts.add_decided.Given as goal

abbrev pub invariant-loop-i : goal.invariant-loop-i
invariant-loop-i l =
    (l.acts.items ≡ l.initial.acts.items ++ flat_map made_acts (map (made_in l.made) (range_with_len l.before (l.i - l.before))))
    × (l.i ≤ max l.before l.upto)
