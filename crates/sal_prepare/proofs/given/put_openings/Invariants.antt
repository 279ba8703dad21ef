-- The first ones are put, and the rest is there.
use Rattle.std.proofs.Common.{◌≡◌, ℕ, ◌≤◌, None, ◌∷◌, length, take}
use Rattle.std.specs.Prelude.{slice_get}
use Rattle.sal_rows.specs.declared.clash.Rules.{Rules}
use Rattle.sal_hub.specs.Openings.{world_of}
use Rattle.sal_prepare.specs.Resumed.{with_openings}
use Rattle.sal_prepare.proofs.given.put_openings.Given as goal

abbrev pub invariant-loop-index : goal.invariant-loop-index
invariant-loop-index l = record {
  put : (rules : Rules) → world_of rules l.devices.items ≡ with_openings (world_of rules l.initial.devices.items) (None ∷ take l.index l.initial.given.items);
  rest : (k : ℕ) → l.index ≤ k → slice_get l.given.items k ≡ slice_get l.initial.given.items k;
  long : length l.given.items ≡ length l.initial.given.items;
}
