use Rattle.std.proofs.Common.{◌≡◌, ◌++◌, take}
use Rattle.std.specs.Prelude.{map}
use Rattle.sal_draw.specs.Acts.{part_act}
use Rattle.sal_draw.proofs.acts.add_parts.Given as goal

abbrev pub invariant-loop-part : goal.invariant-loop-part
invariant-loop-part l = l.acts.items ≡ l.initial.acts.items ++ map (part_act l.domain) (take l.part-index l.parts)
