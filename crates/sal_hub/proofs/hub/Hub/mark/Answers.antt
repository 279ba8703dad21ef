-- The mark is the log's.
use Rattle.std.proofs.Common.{refl}
use Rattle.sal_history.specs.declared.call.Call.TheVariants.{Mark}
use Rattle.sal_history.specs.History.{entries_of}
use Rattle.sal_hub.proofs.Beginning.{quiet_kept}
use Rattle.sal_hub.proofs.Wholes.{longer_now, mark_whole}
use Rattle.sal_hub.proofs.hub.Hub.mark.Goals as goal

pub invariant_of-self-2 : goal.invariant_of-self-2
invariant_of-self-2 c =
    let j = c.self.inside.journal in
    let p = c.self.inside.pipeline in
    let cs = c.self.inside.chains in
    let ms = c.self.inside.marks in
    let whole = c.self.invariant in
    mark_whole j c.leave.new.journal p p cs ms c.self.inside.listeners c.self.inside.services whole (quiet_kept j c.leave.new.journal p whole.kept c.args.client (Mark c.args.mark) c.in-Ok.ensures.log refl refl refl refl (λ k. refl) refl c.in-Ok.ensures.spent)
    c.args.client (entries_of j.log c.args.client) c.args.mark c.leave.new.marks (longer_now j c.leave.new.journal p cs ms c.self.inside.listeners c.self.inside.services whole c.args.client (Mark c.args.mark) c.in-Ok.ensures.log) c.in-Ok.ensures.marked
