-- The bytes of the first texts, and those that may still come.
use Rattle.std.proofs.Common.{◌≡◌, ◌+◌, length, take}
use Rattle.std.specs.List.{sum_by}
use Rattle.sal_script.proofs.texts.room_after.Given as goal

abbrev pub invariant-loop-text : goal.invariant-loop-text
invariant-loop-text l = sum_by length (take l.text-index l.texts) + l.left ≡ l.room
