use Rattle.sal_typedefs.proofs.IdentityLists.{numbered-more, next-more}
use Rattle.sal_typedefs.proofs.identities.identities_among.Goals as goal

pub loop-sub-preserved : goal.loop-sub-preserved
loop-sub-preserved c =
    let subs = c.args.subs.now in
    let i = c.loop-sub.sub-index in
    let sub = c.sub-item.result in
    let start = c.args.tally.now in
    record {
      names = numbered-more start subs i sub c.loop-sub.map c.define_identity.new.map c.loop-sub.tally c.loop-sub-test.true c.sub-item.is c.loop-sub.invariant.names c.loop-sub.invariant.next
          c.in_ok-define_identity.ensures.names;
      next = next-more start subs i sub c.loop-sub.tally c.define_identity.new.tally c.loop-sub-test.true c.sub-item.is c.loop-sub.invariant.next c.in_ok-define_identity.ensures.next;
    }
