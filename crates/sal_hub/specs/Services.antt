-- The hub's services are those of its log.
use Rattle.sal_hub.specs.declared.pipeline.Pipeline.{Pipeline}
use Rattle.sal_hub.specs.declared.services.Services.{Services}
use Rattle.sal_hub.specs.Current.{IsKept, known_of}
use Rattle.sal_hub.specs.HubHistory.{HubHistory}
use Rattle.sal_hub.specs.Journals.{Noted}
use Rattle.sal_hub.specs.Mounted.{AreMounted}
use Rattle.sal_hub.specs.Notified.{AreNoted}
use Rattle.sal_hub.specs.Routed.{AreRouted}

pub record AreServed (known : HubHistory) (services : Services) : Type 0 where
  pub mounts : AreMounted known services.mounts
  pub router : AreRouted known services.router
  pub notes : AreNoted known services.notes

-- one of them is the log's, in the sense of the first argument, and what is kept beside it too
pub record IsServed {S : Type 0} (IsOfLog : HubHistory → S → Type 0) (journal : Noted) (p : Pipeline) (s : S) : Type 0 where
  pub kept : IsKept journal p
  pub served : IsOfLog (known_of journal p) s
