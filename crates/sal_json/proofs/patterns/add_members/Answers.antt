use Rattle.std.proofs.Common.{◌≡◌, true, rules, ap, sym, ◌∙◌}
use Rattle.sal_json.specs.Patterns.{have_malformed, plain_patterns}
use Rattle.sal_json.proofs.Listed.{any_map-at}
use Rattle.sal_json.proofs.patterns.add_members.Goals as goal

pub returns-then-not-branch-clause-formed : goal.returns-then-not-branch-clause-formed
returns-then-not-branch-clause-formed c =
    let bad : have_malformed (plain_patterns c.member-item.result) ≡ true = search rules in
    let here = ap (λ member. have_malformed (plain_patterns member)) c.member-item.is in
    any_map-at plain_patterns have_malformed c.args.members.now c.loop-member.member-index c.member-item.result c.loop-member-test.true (sym here ∙ bad)
