-- At most one reply waits, so the first is the only one.
use Rattle.std.proofs.Common.{◌≡◌, ◌≤◌, ℕ, zero, suc, List, [], ◌∷◌, Bor, Option, None, Some, length, refl, ap, sym, ◌∙◌, subst, arith}
use Rattle.std.specs.Prelude.{MatchOption, option_copied, slice_get}
use Rattle.std.proofs.lemmas.Option.{same_Some}
use Rattle.sal_script.specs.declared.reply.StepReply.{StepReply}
use Rattle.sal_client.specs.declared.run.ClientRun.{ClientRun}
use Rattle.sal_client.specs.Runs.{replies_in}
use Rattle.sal_embed.specs.Broker.{told_by}
use Rattle.sal_embed.proofs.caller.Caller.untold.Goals as goal

only : (rs : List StepReply) (first : Option (Bor StepReply)) → length rs ≤ 1 → option_copied first ≡ slice_get rs 0 → MatchOption first (rs ≡ []) (λ r. rs ≡ r.now ∷ [])
only [] None few is = refl
only [] (Some r) few is = cc
only (x ∷ []) None few is = cc
only (x ∷ []) (Some r) few is = ap (λ (y : StepReply). y ∷ []) (sym (same_Some r.now x is))
only (x ∷ (y ∷ rs)) first few is = absurd (omega arith)

pub returns-in-Some : goal.returns-in-Some
returns-in-Some c =
    let is = ap told_by c.in-Some.is in
    subst (λ (rs : List StepReply). MatchOption c.first.result (rs ≡ []) (λ r. rs ≡ r.now ∷ [])) (sym is)
    (only (replies_in c.in-Some.run') c.first.result (subst (λ (rs : List StepReply). length rs ≤ 1) is c.requires.few) (c.first.ensures.value ∙ ap (λ (rs : List StepReply). slice_get rs 0) c.replies.ensures))

pub returns-in-None : goal.returns-in-None
returns-in-None c = ap told_by c.in-None.is
