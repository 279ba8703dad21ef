-- The numbers so far, and those that are read from here on, are those of the text.
use Rattle.std.proofs.Common.{◌≡◌, ◌++◌, drop}
use Rattle.sal_order.specs.FirstLines.{read_from}
use Rattle.sal_order.proofs.first_line.numbers_in.Given as goal

abbrev pub invariant-loop-byte : goal.invariant-loop-byte
invariant-loop-byte l = l.order.items ++ read_from l.number (drop l.byte-index l.text) ≡ read_from 0 l.text
