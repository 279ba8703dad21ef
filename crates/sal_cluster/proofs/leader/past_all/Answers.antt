-- There are no frames above the number.
use Rattle.std.proofs.Common.{◌-◌, ◌≤◌, List, ℕ, Ok, Err, length, refl, sym, ◌∙◌, subst, arith}
use Rattle.sal_history.specs.History.{commits, history}
use Rattle.sal_follow.specs.declared.fault.ExportFault.TheVariants.{NoMemory}
use Rattle.sal_cluster.specs.Leaders.{Sends}
use Rattle.sal_cluster.proofs.Sending.{sends_none}
use Rattle.sal_cluster.proofs.leader.past_all.Goals as goal

pub returns-then-newest_of-above : goal.returns-then-newest_of-above
returns-then-newest_of-above c = (c.requires.low, (Err NoMemory, tt, refl))

pub returns : goal.returns
returns c =
    let h = c.args.hub.now in
    let n = c.args.domain in
    let newest = c.newest_of.ensures in
    let past : length (commits (history h.world h.log) n) ≤ c.args.above - c.args.base = omega (arith, newest) in
    subst (λ (bytes : List ℕ). Sends h n c.args.base c.args.above (Ok bytes)) (sym (c.from_items.ensures ∙ c.new.ensures.items)) (sends_none h n c.args.base c.args.above c.requires.low past)
