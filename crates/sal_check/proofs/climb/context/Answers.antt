use Rattle.std.proofs.Common.{rules, ◌≡◌, ◌-◌, ◌+◌, ◌<◌, Bool, true, false, cond, not, length, Some, sym, ap, subst, ◌∙◌, arith}
use Rattle.std.specs.Prelude.{IfSome}
use Rattle.sal_schema.specs.declared.kind.Kind.{Kind}
use Rattle.sal_schema.specs.Table.{closest, parent_of}
use Rattle.sal_schema.proofs.Facts.{closest-None, lower}
use Rattle.sal_rules.specs.Contexts.{is_plain}
use Rattle.sal_check.proofs.Climbs.{closest_step, closest-end, kind_says}
use Rattle.sal_check.proofs.climb.context.Goals as goal

abbrev stops : Kind → Bool
stops kind = not (is_plain kind)

pub returns-in-None-clause-value : goal.returns-in-None-clause-value
returns-in-None-clause-value c =
    let table = c.args.schema.now in
    let left = length table.nodes - c.loop-done.done in
    sym (closest-None stops table left) ∙ ap (closest stops table left) (sym c.in-None.is) ∙ c.loop-done.invariant.rest

pub returns-then-not-is_plain-clause-value : goal.returns-then-not-is_plain-clause-value
returns-then-not-is_plain-clause-value c =
    let table = c.args.schema.now in
    let n = length table.nodes in
    let above = c.in-Some.above in
    let plain : is_plain c.kind.result ≡ false = search rules in
    let inside : c.loop-done.done < n = omega (arith, c.loop-done-test.true, c.len-done-end.ensures.count) in
    sym (closest_step table n c.loop-done.done inside stops above ∙ ap (λ b. cond b (Some above) (closest stops table (n - (c.loop-done.done + 1)) (parent_of table above))) (kind_says stops table above c.kind.result c.kind.ensures ∙ ap not plain))
    ∙ ap (closest stops table (n - c.loop-done.done)) (sym c.in-Some.is) ∙ c.loop-done.invariant.rest

pub loop-done-preserved : goal.loop-done-preserved
loop-done-preserved c =
    let table = c.args.schema.now in
    let n = length table.nodes in
    let above = c.in-Some.above in
    let plain : is_plain c.kind.result ≡ true = search rules in
    let inside : c.loop-done.done < n = omega (arith, c.loop-done-test.true, c.len-done-end.ensures.count) in
    let low : above < n = subst (λ o. IfSome o (λ p. p < n)) c.in-Some.is c.loop-done.invariant.within in
    record {
      rest = ap (closest stops table (n - (c.loop-done.done + 1))) c.parent-here-in-Some.ensures.parent
          ∙ sym (closest_step table n c.loop-done.done inside stops above ∙ ap (λ b. cond b (Some above) (closest stops table (n - (c.loop-done.done + 1)) (parent_of table above))) (kind_says stops table above c.kind.result c.kind.ensures ∙ ap not plain))
          ∙ ap (closest stops table (n - c.loop-done.done)) (sym c.in-Some.is) ∙ c.loop-done.invariant.rest;
      within = lower c.parent-here-in-Some.result above n c.parent-here-in-Some.ensures.before (omega (arith, low));
    }

pub returns-clause-value : goal.returns-clause-value
returns-clause-value c =
    let table = c.args.schema.now in
    let n = length table.nodes in
    sym (closest-end stops table c.loop-done.here n c.loop-done.done (omega (arith, c.loop-done-test.false, c.len-done-end.ensures.count))) ∙ c.loop-done.invariant.rest
