-- One upgrade has longer texts than what those before it leave.
use Rattle.std.proofs.Common.{◌<◌, length, subst}
use Rattle.std.specs.List.{sum_by}
use Rattle.sal_script.proofs.ShortTexts.{Texts, too_much}
use Rattle.sal_script.proofs.texts.are_all_short.Goals as goal

pub returns-in-None : goal.returns-in-None
returns-in-None c =
    let l = c.loop-texts in
    too_much c.args.modules.now c.args.upgrades.now l.texts-index l.room c.texts-item.result c.loop-texts-test.true c.texts-item.is l.invariant
    (subst (λ (texts : Texts). l.room < sum_by length texts) c.items.ensures c.in-None.ensures)
