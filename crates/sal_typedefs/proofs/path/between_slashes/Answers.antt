use Rattle.std.proofs.Common.{◌≡◌, ◌∙◌, rules, [], ◌∷◌, ◌++◌, sym, ap, append_assoc}
use Rattle.sal_typedefs.proofs.PathLists.{steps, steps-whole, steps-parts}
use Rattle.sal_typedefs.proofs.path.between_slashes.Goals as goal

pub returns-in-None : goal.returns-in-None
returns-in-None c =
    let done = c.steps.steps.items in
    let rest = c.steps.rest.now in
    let whole : steps rest ≡ rest ∷ [] = steps-whole rest c.split_once.result c.split_once.ensures.cases c.in-None.is in
    c.in_ok-append-in-None.ensures ∙ ap (λ s. done ++ s ∷ []) c.in_ok-new-in-None.ensures ∙ ap (λ n. done ++ n) (sym whole) ∙ sym c.steps.invariant.steps

pub steps-preserved : goal.steps-preserved
steps-preserved c =
    let done = c.steps.steps.items in
    let rest = c.steps.rest.now in
    let parts = steps-parts rest c.split_once.result c.split_once.ensures.cases _ c.in-Some.is in
    let more = steps c.in-Some.more.now in
    let pushed : c.append-in-Some.new.list.items ≡ done ++ c.in-Some.step.now ∷ [] = c.in_ok-append-in-Some.ensures ∙ ap (λ s. done ++ s ∷ []) c.in_ok-new-in-Some.ensures in
    record {
      text = search rules;
      steps = c.steps.invariant.steps ∙ ap (λ n. done ++ n) parts ∙ sym (append_assoc done (c.in-Some.step.now ∷ []) more) ∙ ap (λ p. p ++ more) (sym pushed);
    }
