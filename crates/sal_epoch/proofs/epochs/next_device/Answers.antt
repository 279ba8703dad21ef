-- The domain at the index has its number.
use Rattle.std.proofs.Common.{◌<◌, length, sym, subst, arith}
use Rattle.sal_epoch.proofs.Next.{closed-so, next-so}
use Rattle.sal_epoch.proofs.epochs.next_device.Goals as goal

pub device_of-requires : goal.device_of-requires
device_of-requires c =
    let d = c.index-domains-index in
    let inside : c.args.index < length c.domains.result.now = omega (arith, c.requires, c.domains.ensures.all) in
    let is = c.domains.ensures.each c.args.index d.result inside d.is in
    subst (λ k. k < length c.args.hub.now.world) (sym is.number) c.requires

pub returns : goal.returns
returns c =
    let d = c.index-domains-index in
    let inside : c.args.index < length c.domains.result.now = omega (arith, c.requires, c.domains.ensures.all) in
    let is = c.domains.ensures.each c.args.index d.result inside d.is in
    let made = c.device_of.ensures in record {
      next = next-so c.args.hub.now c.args.index d.result is c.device_of.result made.schema made.upgrades made.config made.oper;
      closed = closed-so c.args.hub.now c.args.index d.result is c.device_of.result c.stays_closed.ensures made.schema made.config made.oper;
    }
