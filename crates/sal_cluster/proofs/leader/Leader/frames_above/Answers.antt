-- The commit of a number is that many after commit 0.
use Rattle.std.proofs.Common.{ℕ, ◌-◌, ◌<◌, List, Result, length, sym, subst}
use Rattle.sal_follow.specs.Framed.{ExportsOn}
use Rattle.sal_hub.specs.HubHistory.{HubHistory}
use Rattle.sal_resume.specs.Committed.{committed}
use Rattle.sal_cluster.specs.declared.fault.FramesFault.{FramesFault}
use Rattle.sal_cluster.specs.Leaders.{Sends, table_sent}
use Rattle.sal_cluster.proofs.Sending.{sends}
use Rattle.sal_cluster.proofs.leader.Leader.frames_above.Goals as goal

pub returns-in-Some : goal.returns-in-Some
returns-in-Some c =
    let known = c.args.self.now.broker.hub in
    let n = c.args.domain in
    let base = c.args.base in
    subst (λ (r : Result (List ℕ) FramesFault). Sends known n base c.args.above r) (sym c.as_frames.ensures)
    (sends known n base c.args.above c.requires.low c.frames_from.result
    (subst (λ (m : ℕ). ExportsOn (table_sent known n) (committed known n) (m - base) m c.frames_from.result) c.in-Some.ensures c.frames_from.ensures))

pub past_all-requires-clause-inside : goal.past_all-requires-clause-inside
past_all-requires-clause-inside c = subst (λ (h : HubHistory). c.args.domain < length h.world) (sym c.hub.ensures) c.requires.inside

pub returns-in-None : goal.returns-in-None
returns-in-None c = subst (λ (h : HubHistory). Sends h c.args.domain c.args.base c.args.above c.past_all.result) c.hub.ensures c.past_all.ensures
