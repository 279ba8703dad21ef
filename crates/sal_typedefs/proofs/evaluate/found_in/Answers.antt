use Rattle.std.proofs.Common.{◌≡◌, ◌∙◌, sym, ap}
use Rattle.sal_typedefs.specs.declared.judgement.Judgement.{Judgement}
use Rattle.sal_typedefs.specs.Names.{steps_of}
use Rattle.sal_typedefs.proofs.evaluate.found_in.Goals as goal

pub returns : goal.returns
returns c w site is =
    let d = is.judged (steps_of w.modules) is.few in
    let fault = c.in_ok-found.ensures.fault ∙ ap (λ (j : Judgement). j.fault) c.value.ensures in
    (fault ∙ d.fault, λ none. c.in_ok-found.ensures.meant ∙ ap (λ (j : Judgement). j.ty) c.value.ensures ∙ d.type (sym fault ∙ none))
