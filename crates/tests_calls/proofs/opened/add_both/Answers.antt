-- One after the other.
use Rattle.std.proofs.Common.{◌≡◌, [], ◌∷◌, ◌++◌, List, refl, ap, subst, ◌∙◌}
use Rattle.sal_commit.specs.Versions.{tables_of}
use Rattle.sal_history.specs.declared.opening.Device.{Device}
use Rattle.tests_calls.specs.Ready.{IsDomain}
use Rattle.tests_calls.proofs.opened.add_both.Goals as goal

pub returns-then-add_own : goal.returns-then-add_own
returns-then-add_own c = λ yes.
    let a = c.if-add_own.ensures refl in
    let b = c.add.ensures yes in
    (a.0, b.0, b.1 ∙ ap (λ (ds : List Device). ds ++ b.0 ∷ []) (a.1 ∙ ap (λ (ds : List Device). ds ++ a.0 ∷ []) c.requires), a.2, subst (λ upgrades. IsDomain c.args.schema.now.value (tables_of upgrades) b.0) c.new.ensures.items b.2)
