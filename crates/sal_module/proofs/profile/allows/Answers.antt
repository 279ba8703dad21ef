use Rattle.std.proofs.Common.{◌∙◌, sym, ap}
use Rattle.sal_module.specs.Table.{Entry, rule_view}
use Rattle.sal_module.specs.Keywords.{same_keyword}
use Rattle.sal_module.specs.Profile.{allows_keyword}
use Rattle.sal_module.proofs.Levels.{any-parts}
use Rattle.sal_module.proofs.profile.allows.Goals as goal

pub returns-in-Some : goal.returns-in-Some
returns-in-Some c =
    let rule = c.args.rule.now in
    c.has_part.ensures
    ∙ sym (any-parts (λ (e : Entry). same_keyword e.0 c.in-Some.keyword) (λ part. part.now) rule.1.now)
    ∙ sym (ap (allows_keyword (rule_view rule)) (sym c.keyword_of.ensures ∙ c.in-Some.is))
