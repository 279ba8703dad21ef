use Rattle.std.proofs.Common.{◌≡◌, ◌++◌, take, string_bytes}
use Rattle.std.specs.List.{flat_map}
use Rattle.sal_order.specs.FirstLines.{number}
use Rattle.sal_order.proofs.first_line.push_numbers.Given as goal

abbrev pub invariant-loop-client : goal.invariant-loop-client
invariant-loop-client l = string_bytes l.line ≡ string_bytes l.initial.line ++ flat_map number (take l.client-index l.order)
