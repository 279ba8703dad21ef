use Rattle.std.proofs.Common.{◌≡◌, ◌∙◌, rules, List, ℕ, [], ◌∷◌, ◌++◌, map, sym, ap, append_assoc}
use Rattle.sal_grouping.specs.Groupings.{Step, step_of}
use Rattle.sal_module.proofs.Paths.{names, names-whole, names-parts}
use Rattle.sal_grouping.proofs.names.steps_of.Goals as goal

pub returns-in-None : goal.returns-in-None
returns-in-None c =
    let f = step_of c.args.modules.now c.args.number in
    let path = c.steps.path.items in
    let rest = c.steps.rest.now in
    let whole : names rest ≡ rest ∷ [] = names-whole rest c.split_once.result c.split_once.ensures.cases c.in-None.is in
    c.in_ok-push-in-None.ensures.items ∙ ap (λ (s : Step). path ++ s ∷ []) c.in_ok-step_of-in-None.ensures ∙ ap (λ (n : List (List ℕ)). path ++ map f n) (sym whole) ∙ sym c.steps.invariant.path

pub steps-preserved : goal.steps-preserved
steps-preserved c =
    let f = step_of c.args.modules.now c.args.number in
    let path = c.steps.path.items in
    let rest = c.steps.rest.now in
    let parts = names-parts rest c.split_once.result c.split_once.ensures.cases _ c.in-Some.is in
    let step = c.in_ok-step_of-in-Some.field-0 in
    let more = map f (names c.in-Some.more.now) in
    let pushed : c.push-in-Some.new.self.items ≡ path ++ f c.in-Some.name.now ∷ [] = c.in_ok-push-in-Some.ensures.items ∙ ap (λ (s : Step). path ++ s ∷ []) c.in_ok-step_of-in-Some.ensures in
    record {
      text = search rules;
      path = c.steps.invariant.path ∙ ap (λ (n : List (List ℕ)). path ++ map f n) parts ∙ sym (append_assoc path (f c.in-Some.name.now ∷ []) more) ∙ ap (λ p. p ++ more) (sym pushed);
    }
