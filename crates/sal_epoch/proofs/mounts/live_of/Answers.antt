-- One mount more.
use Rattle.std.proofs.Common.{rules, ◌<◌, List, length, ap, ◌∙◌}
use Rattle.sal_mount.specs.Mounts.{Mounted}
use Rattle.sal_epoch.specs.Mounts.{live_after, with_live}
use Rattle.sal_epoch.proofs.Mounting.{live_more}
use Rattle.sal_epoch.proofs.mounts.live_of.Goals as goal

pub loop-mount-preserved : goal.loop-mount-preserved
loop-mount-preserved c = λ calls of.
    let l = c.loop-mount in
    let live = live_after c.args.register.now calls in
    let m = c.mount-item.result in
    let inside : l.mount-index < length c.args.made.now = search rules in
    c.in_ok-add_if_live.ensures calls of ∙ ap (λ (ms : List Mounted). with_live live ms m) (l.invariant calls of) ∙ live_more live c.args.made.now l.mount-index m inside c.mount-item.is
