use Rattle.std.proofs.Common.{rules, ◌≡◌, ◌∙◌, ◌++◌, ◌∷◌, [], length, true, not, ap, sym, subst}
use Rattle.std.specs.List.{list_any}
use Rattle.sal_data.specs.Read.{same_step}
use Rattle.sal_data.specs.Rising.{is_past, is_rising}
use Rattle.sal_data.proofs.RisingSteps.{rising-more, is_new-past}
use Rattle.sal_data.proofs.seen.Seen.add.Goals as goal

pub invariant_of-self-then-is_past : goal.invariant_of-self-then-is_past
invariant_of-self-then-is_past c =
    let rising = c.self.inside.rising.items in
    let past : is_past rising c.args.step ≡ true = search rules in
    let pushed : c.push.new.self.items ≡ rising ++ c.args.step ∷ [] = search rules in
    subst (λ steps. is_rising steps ≡ true) (sym pushed) (rising-more rising c.args.step c.self.invariant past)

pub returns-then-is_past-clause-new : goal.returns-then-is_past-clause-new
returns-then-is_past-clause-new c =
    let rising = c.self.inside.rising.items in
    let others = c.self.inside.others.keys in
    let past : is_past rising c.args.step ≡ true = search rules in
    let none : length others ≡ 0 = c.is_empty.ensures.0 c.if-is_empty.true in
    let seen : c.args.self.now ≡ rising ++ others = search rules in
    is_new-past rising others c.args.step c.self.invariant past none ∙ ap (λ steps. not (list_any (same_step c.args.step) steps)) (sym seen)
