use Rattle.std.proofs.Common.{◌≡◌, ◌+◌, ◌-◌, ◌≤◌, length}
use Rattle.std.specs.Prelude.{vec_len, vec_capacity}
use Rattle.sal_types.specs.Tree.{IsAscending}
use Rattle.sal_rows.specs.Patch.{patched}
use Rattle.sal_rows.proofs.rows.patch.patch_all.Given as goal

abbrev pub invariant-loop-patch : goal.invariant-loop-patch
invariant-loop-patch l = record {
  rows : l.rows.items ≡ patched l.initial.rows.items l.yielded;
  order : IsAscending l.rows.items;
  room : vec_len l.rows + (length l.fn.patches.items - length l.yielded) ≤ vec_capacity l.rows;
}
