-- The input is cut at its first zero byte.
use Rattle.std.proofs.Common.{ℕ, List, None, Option, Result, ap, sym, subst}
use Rattle.std.specs.Option.{option_map_or}
use Rattle.sal_prepare.specs.declared.status.Status.{Status}
use Rattle.sal_prepare.specs.Parted.{Parted}
use Rattle.sal_prepare.specs.Texts.{IsTextOr}
use Rattle.sal_picture.specs.Pictured.{drawn, drawn_parts}
use Rattle.sal_picture.proofs.script.draw_text.Goals as goal

pub returns-in-None : goal.returns-in-None
returns-in-None c =
    let own = drawn c.args.range c.args.bytes.now None in
    subst (λ (made : Result (List ℕ) Status). IsTextOr made c.draw_script.result) (ap (λ (o : Option Parted). option_map_or (drawn_parts c.args.range) o own) c.in-None.ensures) c.draw_script.ensures

pub returns-in-Some : goal.returns-in-Some
returns-in-Some c =
    let own = drawn c.args.range c.args.bytes.now None in
    subst (λ (made : Result (List ℕ) Status). IsTextOr made c.draw_script-in-Some.result) (ap (λ (o : Option Parted). option_map_or (drawn_parts c.args.range) o own) c.in-Some.ensures) c.draw_script-in-Some.ensures
