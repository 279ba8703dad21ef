use Rattle.std.proofs.Common.{◌≡◌, take}
use Rattle.sal_rows.specs.Patch.{with_parts}
use Rattle.sal_listen.proofs.mirror.after_parts.Given as goal

abbrev pub invariant-loop-part : goal.invariant-loop-part
invariant-loop-part l = l.rows ≡ with_parts l.initial.rows (take l.part-index l.parts)
