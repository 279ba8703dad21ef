-- One client more has a place.
use Rattle.std.proofs.Common.{◌≡◌, ◌+◌, ◌≤◌, ◌<◌, ℕ, length, refl, ap, sym, ◌∙◌, subst, arith}
use Rattle.sal_embed.specs.declared.clients.Clients.{Clients}
use Rattle.sal_embed.specs.Callers.{IsFresh}
use Rattle.sal_embed.proofs.Placed.{callers_same, placed_callers, placed_long, placing, placing_none, placing_on, placing_same}
use Rattle.sal_embed.proofs.clients.Clients.place.Goals as goal

pub loop-number-init : goal.loop-number-init
loop-number-init c = record { placing = placing_none c.args.self.now; callers = c.requires.callers; long = omega (arith, c.len-number.ensures); few = c.requires.few; reads = refl }

pub loop-number-preserved : goal.loop-number-preserved
loop-number-preserved c =
    let was = c.loop-number.invariant in
    let mid = c.loop-number.self in
    let new : Clients = record mid { callers = c.push.new.self } in
    let caller = c.new.result in
    let fresh = subst (λ (n : ℕ). IsFresh n caller) (sym was.long) c.new.ensures in
    let items = c.in_ok-push.ensures.items in
    let long = placed_long mid new caller fresh refl items in
    record {
      placing = placing_on c.args.self.now mid new was.placing (placing mid new caller fresh refl items);
      callers = placed_callers mid new caller fresh refl items was.callers;
      long = omega (arith, long, was.long);
      few = omega (arith, long, was.long, c.loop-number-test.true, c.requires.client);
      reads = was.reads;
    }

pub returns-in_err-push-clause-placing : goal.returns-in_err-push-clause-placing
returns-in_err-push-clause-placing c =
    let mid = c.loop-number.self in
    let new : Clients = record mid { callers = c.push.new.self } in
    placing_on c.args.self.now mid new c.loop-number.invariant.placing (placing_same mid new refl c.in_err-push.ensures.items)

pub returns-in_err-push-clause-callers : goal.returns-in_err-push-clause-callers
returns-in_err-push-clause-callers c =
    let mid = c.loop-number.self in
    let new : Clients = record mid { callers = c.push.new.self } in
    callers_same mid new refl c.in_err-push.ensures.items c.loop-number.invariant.callers

pub returns-in_err-push-clause-few : goal.returns-in_err-push-clause-few
returns-in_err-push-clause-few c = let same = ap length c.in_err-push.ensures.items in omega (arith, same, c.loop-number.invariant.few)

pub returns-clause-placed : goal.returns-clause-placed
returns-clause-placed c = omega (arith, c.loop-number-test.false, c.loop-number.invariant.long)
