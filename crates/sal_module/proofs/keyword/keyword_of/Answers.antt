use Rattle.std.proofs.Common.{◌∙◌, List, ap}
use Rattle.sal_module.specs.Keywords.{Word, keyword_among, words_with}
use Rattle.sal_module.proofs.Initials.{among-all}
use Rattle.sal_module.proofs.keyword.keyword_of.Goals as goal

pub returns-in-Some : goal.returns-in-Some
returns-in-Some c =
    let text = c.args.text.now in
    c.find_word.ensures ∙ ap (λ (some : List Word). keyword_among some text) (c.in-Some.ensures ∙ ap words_with c.first_of.ensures) ∙ among-all text
