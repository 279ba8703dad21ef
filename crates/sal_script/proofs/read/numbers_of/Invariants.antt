use Rattle.std.proofs.Common.{◌≡◌, drop, codes}
use Rattle.sal_script.proofs.Each.{each_from, before}
use Rattle.sal_script.proofs.Readers.{number_at}
use Rattle.sal_script.proofs.read.numbers_of.Given as goal

abbrev pub invariant-loop-value : goal.invariant-loop-value
invariant-loop-value l =
    before l.numbers.items (each_from (number_at (codes "order")) l.value-index (drop l.value-index l.list)) ≡ each_from (number_at (codes "order")) 0 l.list
