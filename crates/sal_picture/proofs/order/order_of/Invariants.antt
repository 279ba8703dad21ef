use Rattle.std.proofs.Common.{◌≡◌, take}
use Rattle.std.specs.List.{fold}
use Rattle.sal_picture.specs.Order.{read_byte, reading_of}
use Rattle.sal_picture.proofs.order.order_of.Given as goal

abbrev pub invariant-loop-b : goal.invariant-loop-b
invariant-loop-b l = reading_of l.reading ≡ fold read_byte (reading_of l.initial.reading) (take l.b-index l.line)
