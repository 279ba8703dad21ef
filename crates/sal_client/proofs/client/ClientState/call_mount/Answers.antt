-- The calls for mounts leave the slots as they are.
use Rattle.std.proofs.Common.{refl, ap, sym, subst}
use Rattle.sal_history.specs.declared.call.Call.TheVariants as made
use Rattle.sal_history.specs.declared.reply.Reply.TheVariants as replies
use Rattle.sal_script.specs.Play.{ask}
use Rattle.sal_client.specs.declared.mounts.MountWish.{MountWish}
use Rattle.sal_client.specs.declared.mounts.MountWish.TheVariants as wishes
use Rattle.sal_client.specs.declared.wish.Wish.TheVariants.{Mount}
use Rattle.sal_client.specs.Answers.{IsAnswer}
use Rattle.sal_client.specs.Clients.{client_of}
use Rattle.sal_client.specs.Leaving.{Leaves}
use Rattle.sal_client.proofs.Leaving.{leaves_slots}
use Rattle.sal_client.proofs.client.ClientState.call_mount.Goals as goal

pub returns-in-Mount : goal.returns-in-Mount
returns-in-Mount c =
    subst (λ (w : MountWish). Leaves (Mount w) c.args.hub.now c.args.self.now c.mount.new.self c.args.self.now c.answer_to.result) (sym c.in-Mount.is)
    (leaves_slots (Mount (wishes.Mount c.in-Mount.device c.in-Mount.text c.in-Mount.path)) c.args.hub.now c.mount.new.self c.args.self.now (made.Mount c.in-Mount.path c.in-Mount.device) (c.tokens_last.ensures.begun, c.tokens_last.ensures.given, c.tokens_last.ensures.opened, c.tokens_last.ensures.called) refl c.requires.sound (λ tables read. ap (λ o. ask o (client_of c.args.self.now)) read) (λ r. refl)
    (λ _. replies.Accepted) c.mount.result c.answer_to.result c.mount.ensures.answer (subst (λ q. IsAnswer q c.answer_to.result) c.accepted.ensures c.answer_to.ensures))

pub returns-in-Unmount : goal.returns-in-Unmount
returns-in-Unmount c =
    subst (λ (w : MountWish). Leaves (Mount w) c.args.hub.now c.args.self.now c.unmount.new.self c.args.self.now c.answer_to-in-Unmount.result) (sym c.in-Unmount.is)
    (leaves_slots (Mount (wishes.Unmount c.in-Unmount.domain)) c.args.hub.now c.unmount.new.self c.args.self.now (made.Unmount c.in-Unmount.domain) (c.tokens_last.ensures.begun, c.tokens_last.ensures.given, c.tokens_last.ensures.opened, c.tokens_last.ensures.called) refl c.requires.sound (λ tables read. refl) (λ r. refl)
    (λ _. replies.Accepted) c.unmount.result c.answer_to-in-Unmount.result c.unmount.ensures.answer (subst (λ q. IsAnswer q c.answer_to-in-Unmount.result) c.accepted-in-Unmount.ensures c.answer_to-in-Unmount.ensures))

pub returns : goal.returns
returns c =
    subst (λ (w : MountWish). Leaves (Mount w) c.args.hub.now c.args.self.now c.mount_at.new.self c.args.self.now c.answer_to-in-MountAt.result) (sym c.in-MountAt.is)
    (leaves_slots (Mount (wishes.MountAt c.in-MountAt.text c.in-MountAt.path)) c.args.hub.now c.mount_at.new.self c.args.self.now (made.MountAt c.in-MountAt.path) (c.tokens_last.ensures.begun, c.tokens_last.ensures.given, c.tokens_last.ensures.opened, c.tokens_last.ensures.called) refl c.requires.sound (λ tables read. ap (λ o. ask o (client_of c.args.self.now)) read) (λ r. refl)
    (λ at. replies.MountAt at) c.mount_at.result c.answer_to-in-MountAt.result c.mount_at.ensures.answer (subst (λ q. IsAnswer q c.answer_to-in-MountAt.result) c.mounted.ensures c.answer_to-in-MountAt.ensures))
