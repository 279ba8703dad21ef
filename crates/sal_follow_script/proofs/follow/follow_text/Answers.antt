-- The input is cut at its first zero byte.
use Rattle.std.proofs.Common.{ℕ, List, Option, Result, Err, ap, subst}
use Rattle.std.specs.Option.{option_map_or}
use Rattle.sal_prepare.specs.declared.status.Status.{Status}
use Rattle.sal_prepare.specs.declared.status.Status.TheVariants.{NoPart}
use Rattle.sal_prepare.specs.Parted.{Parted}
use Rattle.sal_prepare.specs.Texts.{IsTextOr}
use Rattle.sal_follow_script.specs.Follows.{follow_parts}
use Rattle.sal_follow_script.proofs.follow.follow_text.Goals as goal

pub returns-in-Some : goal.returns-in-Some
returns-in-Some c =
    subst (λ (made : Result (List ℕ) Status). IsTextOr made c.follow_parts.result) (ap (λ (o : Option Parted). option_map_or follow_parts o (Err NoPart)) c.in-Some.ensures) c.follow_parts.ensures
