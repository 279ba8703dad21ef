use denote.Param.Send.{IsSend}
use Rattle.mdsal_c.proofs.Crossing.{Held-send}
use Rattle.mdsal_c.specs.contracts.held.Held.{the_row}

pub send : IsSend the_row
send = Held-send
