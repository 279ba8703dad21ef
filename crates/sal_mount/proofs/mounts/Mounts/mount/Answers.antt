use Rattle.std.proofs.Common.{refl, ap, sym, ◌∙◌, subst}
use Rattle.std.specs.declared.result.Result.{Result}
use Rattle.sal_mount.specs.declared.call.MountCall.TheVariants.{Mount}
use Rattle.sal_mount.specs.declared.call.MountFault.{MountFault}
use Rattle.sal_mount.specs.declared.call.MountReply.TheVariants.{Accepted}
use Rattle.sal_mount.specs.Answers.{Answers, Makes}
use Rattle.sal_mount.specs.Register.{Register, refusal_by}
use Rattle.sal_mount.proofs.Kept.{mount_fails, mount_made}
use Rattle.sal_mount.proofs.mounts.Mounts.mount.Goals as goal
use Rattle.sal_mount.proofs.mounts.Mounts.mount.Goals.{in-Ok, in-Err}

pub returns-in-Some : goal.returns-in-Some
returns-in-Some c = mount_fails c.args.self.now c.args.path.now c.args.device c.in-Some.fault (sym c.refusal.ensures ∙ c.in-Some.is)

pub returns : goal.returns
returns c =
    let old : Register = record { devices = c.self.inside.devices; places = c.self.inside.places.entries; states = c.self.inside.states.entries } in
    let new : Register = record { devices = c.self.inside.devices; places = c.put.new.places.entries; states = c.put.new.states.entries } in
    elim c.match-put.branch [
      | in-Ok w ↦ subst (λ (r : Result (Unit {0}) MountFault). Answers c.args.self.now new (Mount c.args.path.now c.args.device) (λ _. Accepted) r) (sym w.result-is)
          (subst (λ (o : Register). Makes o new (Mount c.args.path.now c.args.device) Accepted) c.self.view_is
          (mount_made old new c.args.path.now c.args.device refl (ap (λ (r : Register). refusal_by r c.args.path.now c.args.device) c.self.view_is ∙ sym c.refusal.ensures ∙ c.in_default.is) w.in-Ok.ensures.up w.in-Ok.ensures.last))
      | in-Err w ↦ subst (λ (r : Result (Unit {0}) MountFault). Answers c.args.self.now new (Mount c.args.path.now c.args.device) (λ _. Accepted) r) (sym w.result-is)
          ((λ i. record { devices = c.self.inside.devices; places = w.in-Err.ensures.same_places i; states = w.in-Err.ensures.same_states i }) ∙ c.self.view_is)
    ]
