-- To which client a request is delivered, and how often.
use Rattle.sal_history.proofs.Routed.{handed-once-in-log, handed-to-provider}
use Rattle.sal_history.proofs.laws.requests_go_to_their_provider_once.Goals as goal

pub returns-clause-provider : goal.returns-clause-provider
returns-clause-provider c = handed-to-provider

pub returns-clause-once : goal.returns-clause-once
returns-clause-once c = handed-once-in-log
