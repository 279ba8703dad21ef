-- A look for a mark changes no slot.
use Rattle.std.proofs.Common.{refl, subst}
use Rattle.sal_history.specs.declared.call.Call.TheVariants.{After as AfterCall}
use Rattle.sal_hub.specs.Seen.{seen_reply}
use Rattle.sal_client.specs.declared.wish.Wish.TheVariants.{After}
use Rattle.sal_client.specs.Answers.{IsAnswer}
use Rattle.sal_client.proofs.Leaving.{leaves_slots}
use Rattle.sal_client.proofs.client.ClientState.after.Goals as goal

pub returns : goal.returns
returns c =
    let last = c.tokens_last.ensures in
    leaves_slots (After c.args.mark) c.args.hub.now c.after.new.self c.args.self.now (AfterCall c.args.mark) (last.begun, last.given, last.opened, last.called) refl c.requires.sound (λ tables read. refl) (λ r. refl)
    seen_reply c.after.result c.answer_to.result c.after.ensures.answer (subst (λ q. IsAnswer q c.answer_to.result) c.looked.ensures c.answer_to.ensures)
