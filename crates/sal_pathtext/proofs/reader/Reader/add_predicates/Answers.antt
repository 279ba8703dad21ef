use Rattle.std.proofs.Common.{◌≡◌, ◌∙◌, ◌-◌, Ok, Err, rules, arith}
use Rattle.std.proofs.lemmas.Grind.{common_steps}
use Rattle.std.proofs.lemmas.Bool.Decides.{nat_tests}
use Rattle.sal_pathtext.specs.Read.{predicates}
use Rattle.sal_pathtext.proofs.Entries.{predicates_at}
use Rattle.sal_pathtext.proofs.reader.Reader.add_predicates.Goals as goal

pub predicates-preserved : goal.predicates-preserved
predicates-preserved c =
    let l = c.predicates in
    let table = c.args.self.now.schema.now in
    let whole = c.args.self.now.text.now in
    let (m, room, same) = l.invariant.2 in
    let step = predicates_at table whole m c.args.node l.given.items l.rest.now room in
    let done : predicates table whole m c.args.node l.given.items l.rest.now ≡ predicates table whole (m - 1) c.args.node c.push.new.self.items c.in-Ok.after.now = grind (arith, nat_tests, common_steps, c.in-Ok.ensures.value) in
    (search rules, omega (arith, l.invariant.1, c.in-Ok.ensures.shorter), (m - 1, omega (arith, room, c.in-Ok.ensures.shorter), same ∙ done))

pub returns-in-Err-clause-value : goal.returns-in-Err-clause-value
returns-in-Err-clause-value c known =
    let l = c.predicates in
    let table = c.args.self.now.schema.now in
    let whole = c.args.self.now.text.now in
    let (m, room, same) = l.invariant.2 in
    let step = predicates_at table whole m c.args.node l.given.items l.rest.now room in
    let failed = c.in-Err.ensures.value known in
    let done : predicates table whole m c.args.node l.given.items l.rest.now ≡ Err c.in-Err.fault = grind (arith, nat_tests, common_steps, failed) in
    same ∙ done

pub returns-clause-value : goal.returns-clause-value
returns-clause-value c =
    let l = c.predicates in
    let table = c.args.self.now.schema.now in
    let whole = c.args.self.now.text.now in
    let (m, room, same) = l.invariant.2 in
    let step = predicates_at table whole m c.args.node l.given.items l.rest.now room in
    let done : predicates table whole m c.args.node l.given.items l.rest.now ≡ Ok (l.given.items, l.rest.now) = grind (arith, nat_tests, common_steps) in
    same ∙ done
