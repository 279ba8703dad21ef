use Rattle.std.proofs.Common.{◌≡◌, ℕ, true, false, List, Option, Some, None, refl, sym, ◌∙◌}
use Rattle.std.specs.Prelude.{is_some}
use Rattle.std.specs.FinMap.{find}
use Rattle.sal_types.specs.Order.{path_cmp}
use Rattle.sal_types.specs.declared.value.Step.{Step}
use Rattle.sal_mod.specs.Covers.{noted_at}
use Rattle.sal_mod.proofs.Noted.{noted-there, noted-new}
use Rattle.sal_mod.proofs.firsts.note_at.Goals as goal

none_is : (o : Option ℕ) → is_some o ≡ false → o ≡ None
none_is None e = refl
none_is (Some n) e = cc

there : (w : List Step) (n : ℕ) (es : List (List Step × ℕ)) (p : List Step) (o : Option ℕ) → find path_cmp w es ≡ o → is_some o ≡ true → find path_cmp p es ≡ noted_at w n p (find path_cmp p es)
there w n es p None e h = cc
there w n es p (Some m) e h = noted-there w n m es p e

pub returns-then-is_some-clause-ok : goal.returns-then-is_some-clause-ok
returns-then-is_some-clause-ok c = λ p. there c.args.steps.now c.args.place c.args.places.now p c.at.result (sym c.at.ensures) (sym c.is_some.ensures ∙ c.if-is_some.true)

pub returns-clause-ok : goal.returns-clause-ok
returns-clause-ok c = λ p. noted-new c.args.steps.now c.args.place c.args.places.now _ p (sym c.at.ensures ∙ none_is c.at.result (sym c.is_some.ensures ∙ c.if-is_some.false)) c.in_ok-set.ensures.ok
