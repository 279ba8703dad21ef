-- The bytes of the first texts, and those that may still come.
use Rattle.std.proofs.Common.{◌≡◌, ◌+◌, length, take}
use Rattle.std.specs.List.{sum_by}
use Rattle.sal.specs.Modules.{texts_in}
use Rattle.sal.proofs.modules.are_short.Given as goal

abbrev pub invariant-loop-text : goal.invariant-loop-text
invariant-loop-text l = sum_by length (take l.text-index (texts_in l.texts)) + l.room ≡ 4294967295
