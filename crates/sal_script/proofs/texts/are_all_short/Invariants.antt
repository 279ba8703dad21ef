-- The bytes of the modules and of the first upgrades, and those that may still come.
use Rattle.std.proofs.Common.{◌≡◌, ◌+◌, length, take}
use Rattle.std.specs.List.{sum_by}
use Rattle.sal_script.specs.Limits.{all_texts}
use Rattle.sal_script.proofs.texts.are_all_short.Given as goal

abbrev pub invariant-loop-texts : goal.invariant-loop-texts
invariant-loop-texts l = sum_by length (all_texts l.modules (take l.texts-index l.upgrades)) + l.room ≡ 4294967295
