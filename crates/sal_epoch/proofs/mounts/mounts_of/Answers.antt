-- The mounts of the log, made once more, are those of its history.
use Rattle.std.proofs.Common.{◌≡◌, List, length, sym, subst, arith}
use Rattle.std.proofs.lemmas.Grind.{common_steps}
use Rattle.sal_history.specs.declared.call.Entry.{Entry}
use Rattle.sal_epoch.specs.declared.mounts.Mount.{Mount}
use Rattle.sal_history.specs.MountCalls.{mounts_in}
use Rattle.sal_epoch.specs.Mounts.{Follows}
use Rattle.sal_epoch.proofs.Mounting.{left-so, nothing_listed}
use Rattle.sal_epoch.proofs.mounts.mounts_of.Goals as goal

pub replay_all-requires : goal.replay_all-requires
replay_all-requires c = nothing_listed c.new-register.result c.new-made.result.items c.new-register.ensures.calls c.new-made.ensures.items

pub returns : goal.returns
returns c =
    let r = c.replay_all.new.register in
    let told = c.in_ok-replay_all.ensures in
    let many : r.devices ≡ length c.args.hub.now.world = grind (arith, common_steps, told.devices, c.new-register.ensures.devices, c.domains.ensures.all) in
    let by_log : Follows (mounts_in c.args.hub.now.log) r c.replay_all.new.made.items = subst (λ (log : List Entry). Follows (mounts_in log) r c.replay_all.new.made.items) c.log.ensures told.follows in
    left-so c.args.hub.now r c.deref.result.now c.live_of.result many (subst (λ (ms : List Mount). Follows (mounts_in c.args.hub.now.log) r ms) (sym c.deref.ensures.value) by_log) c.live_of.ensures
