-- The hub's whole state is that of its log.
use Rattle.sal_hub.specs.declared.chains.Chains.{Chains}
use Rattle.sal_hub.specs.declared.listeners.Listeners.{Listeners}
use Rattle.sal_hub.specs.declared.marks.Marks.{Marks}
use Rattle.sal_hub.specs.declared.pipeline.Pipeline.{Pipeline}
use Rattle.sal_hub.specs.declared.services.Services.{Services}
use Rattle.sal_hub.specs.Chains.{AreChains}
use Rattle.sal_hub.specs.Current.{IsKept, known_of}
use Rattle.sal_hub.specs.Journals.{Noted}
use Rattle.sal_hub.specs.Listeners.{AreListeners}
use Rattle.sal_hub.specs.Marks.{AreMarked}
use Rattle.sal_hub.specs.Services.{AreServed}

pub record IsWhole (journal : Noted) (p : Pipeline) (cs : Chains) (ms : Marks) (ls : Listeners) (sv : Services) : Type 0 where
  pub kept : IsKept journal p
  pub chains : AreChains (known_of journal p) cs
  pub marked : AreMarked journal.log ms.map
  pub listeners : AreListeners (known_of journal p) ls
  pub services : AreServed (known_of journal p) sv
