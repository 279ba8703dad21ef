-- The mark of the domain is the one that is kept.
use Rattle.std.proofs.Common.{◌<◌, length, ◌∙◌, arith}
use Rattle.std.proofs.lemmas.Grind.{common_steps}
use Rattle.sal_hub.proofs.Serving.{live_at, shown_at}
use Rattle.sal_hub.proofs.pipeline.Pipeline.live.Goals as goal

pub returns-then-found-clause-live : goal.returns-then-found-clause-live
returns-then-found-clause-live c =
    let h : c.args.domain < length c.args.self.now.domains.items = grind (arith, common_steps) in
    live_at c.args.self.now c.args.domain c.index-found.result.now h c.index-found.ensures ∙ c.if-found.true

pub returns-then-found-clause-found : goal.returns-then-found-clause-found
returns-then-found-clause-found c =
    let h : c.args.domain < length c.args.self.now.domains.items = grind (arith, common_steps) in
    shown_at c.args.self.now.domains.items c.args.domain c.index-found.result.now h c.index-found.ensures

pub returns-else-found-clause-live : goal.returns-else-found-clause-live
returns-else-found-clause-live c =
    let h : c.args.domain < length c.args.self.now.domains.items = grind (arith, common_steps) in
    live_at c.args.self.now c.args.domain c.index-found.result.now h c.index-found.ensures ∙ c.if-found.false
