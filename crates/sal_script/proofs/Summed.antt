-- The summary of what a load's clients left is that of one order.
use Rattle.std.proofs.Common.{◌≡◌, refl}
use Rattle.sal_script.specs.Along.{order_of}
use Rattle.sal_script.specs.Load.{clients_of}
use Rattle.sal_script.specs.LoadOrder.{LeftIsSummed}
use Rattle.sal_script.specs.OneOrder.{IsOneOrder}
use Rattle.sal_script.proofs.Left.{what_is_left_is_one_order}

pub what_a_load_left_is_summed : LeftIsSummed
what_a_load_left_is_summed world rounds start log replies left =
    let one : IsOneOrder world (clients_of rounds start) log replies = what_is_left_is_one_order world (clients_of rounds start) log replies left in
    record {
      order = order_of log;
      legal = one.legal;
      played = record { log = log; replies = replies };
      plays = one.plays;
      written = refl;
    }
