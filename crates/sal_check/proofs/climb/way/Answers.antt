use Rattle.std.proofs.Common.{rules, ◌≡◌, ◌-◌, ◌+◌, ◌<◌, true, false, length, ◌∷◌, sym, ap, subst, ◌∙◌, arith}
use Rattle.std.specs.Prelude.{IfSome}
use Rattle.sal_types.specs.declared.value.Step.TheVariants.{Node}
use Rattle.sal_schema.proofs.Facts.{lower}
use Rattle.sal_rules.specs.Contexts.{is_plain, through_plain}
use Rattle.sal_check.proofs.Climbs.{through_kind, through-None, through-end}
use Rattle.sal_check.proofs.climb.way.Goals as goal

pub returns-in-None : goal.returns-in-None
returns-in-None c =
    let table = c.args.schema.now in
    let left = length table.nodes - c.loop-done.done in
    sym (through-None table left c.loop-done.steps.items) ∙ ap (λ o. through_plain table left o c.loop-done.steps.items) (sym c.in-None.is) ∙ c.loop-done.invariant.rest

pub returns-then-not-is_plain : goal.returns-then-not-is_plain
returns-then-not-is_plain c =
    let table = c.args.schema.now in
    let n = length table.nodes in
    let steps = c.loop-done.steps.items in
    let plain : is_plain c.kind.result ≡ false = search rules in
    let inside : c.loop-done.done < n = omega (arith, c.loop-done-test.true, c.len-done-end.ensures.count) in
    sym (through_kind table n c.loop-done.done inside false c.in-Some.above c.kind.result steps c.kind.ensures plain)
    ∙ ap (λ o. through_plain table (n - c.loop-done.done) o steps) (sym c.in-Some.is) ∙ c.loop-done.invariant.rest

pub loop-done-preserved : goal.loop-done-preserved
loop-done-preserved c =
    let table = c.args.schema.now in
    let n = length table.nodes in
    let steps = c.loop-done.steps.items in
    let plain : is_plain c.kind.result ≡ true = search rules in
    let inside : c.loop-done.done < n = omega (arith, c.loop-done-test.true, c.len-done-end.ensures.count) in
    let low : c.in-Some.above < n = subst (λ o. IfSome o (λ p. p < n)) c.in-Some.is c.loop-done.invariant.within in
    let longer : c.insert.new.self.items ≡ Node c.in-Some.above ∷ steps = search rules in
    record {
      rest = (λ i. through_plain table (n - (c.loop-done.done + 1)) (c.parent-here-in-Some.ensures.parent i) (longer i))
          ∙ sym (through_kind table n c.loop-done.done inside true c.in-Some.above c.kind.result steps c.kind.ensures plain)
          ∙ ap (λ o. through_plain table (n - c.loop-done.done) o steps) (sym c.in-Some.is) ∙ c.loop-done.invariant.rest;
      within = lower c.parent-here-in-Some.result c.in-Some.above n c.parent-here-in-Some.ensures.before (omega (arith, low));
    }

pub returns : goal.returns
returns c =
    let table = c.args.schema.now in
    let n = length table.nodes in
    sym (through-end table c.loop-done.here c.loop-done.steps.items n c.loop-done.done (omega (arith, c.loop-done-test.false, c.len-done-end.ensures.count))) ∙ c.loop-done.invariant.rest
