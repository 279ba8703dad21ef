use Rattle.std.proofs.Common.{◌≡◌, ◌∙◌, ◌<◌, true, refl, sym, arith}
use Rattle.std.proofs.lemmas.Grind.{common_steps}
use Rattle.sal_typedefs.specs.Names.{steps_of}
use Rattle.sal_typedefs.specs.Opened.{world}
use Rattle.sal_typedefs.specs.Settled.{is_plain}
use Rattle.sal_typedefs.specs.Spots.{site_of}
use Rattle.sal_typedefs.proofs.LeastLists.{all-numbers, all-positions}
use Rattle.sal_typedefs.proofs.SettledLists.{settled-over, both-true}
use Rattle.sal_typedefs.proofs.scope.over.Goals as goal

pub judge_next-requires-clause-numbers : goal.judge_next-requires-clause-numbers
judge_next-requires-clause-numbers c = all-numbers c.args.parts.below.items _ (c.requires.parts.judged c.args.parts.depth (omega arith))

pub judge_next-requires-clause-positions : goal.judge_next-requires-clause-positions
judge_next-requires-clause-positions c = all-positions c.args.parts.below.items _ (c.requires.parts.judged c.args.parts.depth (omega arith))

pub returns : goal.returns
returns c =
    let w = world c.args.scope.now in
    let few : c.args.parts.depth < steps_of w.modules = grind (arith, common_steps) in
    let plain : c.both.result ≡ true → (c.args.parts.plain ≡ true) × (is_plain (site_of c.args.spot.now) ≡ true) = λ e. let h = both-true c.args.parts.plain c.is_plain.result (sym c.both.ensures ∙ e) in (h.0, sym c.is_plain.ensures ∙ h.1) in
    settled-over w (site_of c.args.spot.now) c.args.parts _ c.requires.parts c.requires.low few refl refl plain c.in_ok-judgement.ensures
