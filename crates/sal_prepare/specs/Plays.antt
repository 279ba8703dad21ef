-- The status of a play's fault.
use Rattle.sal_client.specs.declared.simulation.PlayFault.{PlayFault}
use Rattle.sal_client.specs.declared.simulation.PlayFault.TheVariants as fault_of
use Rattle.sal_prepare.specs.declared.status.Status.{Status}
use Rattle.sal_prepare.specs.declared.status.Status.TheVariants.{BadOrder, NoMemory}

abbrev pub play_status : PlayFault → Status
play_status (fault_of.BadOrder index) = BadOrder index
play_status fault_of.NoMemory = NoMemory
