use Rattle.std.proofs.Common.{◌≡◌, true, false, refl, arith, subst, nat_eq, inl, inr}
use Rattle.std.proofs.lemmas.Bool.Decides.{nat_tests}
use Rattle.sal_mount.specs.declared.call.MountCall.TheVariants.{Unmount}
use Rattle.sal_mount.specs.declared.call.MountFault.TheVariants.{NoDomain}
use Rattle.sal_mount.specs.declared.call.MountReply.TheVariants.{Accepted}
use Rattle.sal_mount.specs.Answers.{IsRefused, Makes}
use Rattle.sal_mount.specs.Register.{Register, is_up}
use Rattle.sal_mount.proofs.Kept.{unmount_made, unmount_refused}
use Rattle.sal_mount.proofs.mounts.Mounts.unmount.Goals as goal
use Rattle.sal_mount.proofs.mounts.Mounts.unmount.Goals.{then-domain-eq0-via-then-domain-eq0, then-domain-eq0-via-else-domain-eq0+then-not-is_up}

pub returns-then-domain-eq0 : goal.returns-then-domain-eq0
returns-then-domain-eq0 c =
    let old : Register = record { devices = c.self.inside.devices; places = c.self.inside.places.entries; states = c.self.inside.states.entries } in
    subst (λ (r : Register). IsRefused r r (Unmount c.args.domain) (NoDomain c.args.domain)) c.self.view_is (record {
      made = unmount_refused old c.args.domain (elim c.then-domain-eq0.branch [
        | then-domain-eq0-via-then-domain-eq0 w ↦ inl (let e : nat_eq c.args.domain 0 ≡ true = grind (arith, nat_tests, w.if-domain-eq0.true) in e)
        | then-domain-eq0-via-else-domain-eq0+then-not-is_up w ↦ inr (let e : is_up old.states c.args.domain ≡ false = grind (arith, w.is_up.ensures, w.if-not-is_up.true) in e)
      ]);
      same = refl;
    })

pub returns : goal.returns
returns c =
    let old : Register = record { devices = c.self.inside.devices; places = c.self.inside.places.entries; states = c.self.inside.states.entries } in
    let new : Register = record { devices = c.self.inside.devices; places = c.self.inside.places.entries; states = c.take_down.new.states.entries } in
    let device : nat_eq c.args.domain 0 ≡ false = grind (arith, nat_tests, c.if-domain-eq0.false) in
    let here : is_up old.states c.args.domain ≡ true = grind (arith, c.is_up.ensures, c.if-not-is_up.false) in
    subst (λ (o : Register). Makes o new (Unmount c.args.domain) Accepted) c.self.view_is (unmount_made old new c.args.domain refl refl device here c.take_down.ensures)
