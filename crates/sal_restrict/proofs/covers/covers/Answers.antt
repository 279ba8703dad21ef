use Rattle.std.proofs.Common.{◌≡◌, ◌+◌, ℤ, pos, ◌+ℤ◌, ◌<ℤ◌, ◌≤ℤ◌, FitsSigned, true, List, ◌∷◌, drop, get_or, length, int_le, if◌then◌else◌, sym, ap, subst, ◌∙◌, ℕ, ◌<◌, arith, rules}
use Rattle.std.proofs.lemmas.Int.{ints, to_z-of_z}
use Rattle.std.proofs.lemmas.List.{drop_more, drop_all}
use Rattle.std.specs.Int.{w128}
use Rattle.sal_restrict.specs.declared.ranges.Part.{Part}
use Rattle.sal_restrict.specs.Ranges.{is_ascending, holds}
use Rattle.sal_restrict.proofs.Numbers.{IsHeldUpto, covers-gap, covers-rest, held_on, none_below, lt_passes, is_ascending-drop}
use Rattle.sal_restrict.proofs.covers.covers.Goals as goal

abbrev none : Part
none = record { low = pos 0; high = pos 0 }

-- the next part and those after it
at : {parts : List Part} {numbers : Part} {next : ℤ} (i : ℕ) → i < length parts → IsHeldUpto parts (drop i parts) numbers next
    → IsHeldUpto parts (get_or parts i none ∷ drop (i + 1) parts) numbers next
at {parts} {numbers} {next} i h was = subst (λ rest. IsHeldUpto parts rest numbers next) (drop_more parts i none h) was

pub returns-then-next-part : goal.returns-then-next-part
returns-then-next-part c =
    let parts = c.args.parts.now in
    let i = c.loop-part.part-index in
    let next = c.loop-part.next in
    let was = subst (λ n. IsHeldUpto parts (drop i parts) c.args.numbers n) c.loop-part.next-is c.loop-part.invariant in
    let fits : FitsSigned w128 (get_or parts i none).low = search rules in
    let less : c.loop-part.next <ℤ (get_or parts i none).low = grind (arith, ints) in
    let order = subst (λ list. is_ascending list ≡ true) (drop_more parts i none c.loop-part-test.true) (is_ascending-drop i parts c.requires.order) in
    sym (covers-gap parts (get_or parts i none ∷ drop (i + 1) parts) c.args.numbers next (at i c.loop-part-test.true was)
    (none_below (get_or parts i none ∷ drop (i + 1) parts) next order (lt_passes next (get_or parts i none).low less)))

pub returns-then-numbers-part : goal.returns-then-numbers-part
returns-then-numbers-part c =
    let parts = c.args.parts.now in
    let i = c.loop-part.part-index in
    let next = c.loop-part.next in
    let was = subst (λ n. IsHeldUpto parts (drop i parts) c.args.numbers n) c.loop-part.next-is c.loop-part.invariant in
    let fits : FitsSigned w128 (get_or parts i none).low = search rules in
    let fits' : FitsSigned w128 (get_or parts i none).high = search rules in
    let fits'' : FitsSigned w128 c.args.numbers.high = search rules in
    let low : (get_or parts i none).low ≤ℤ c.loop-part.next = grind (arith, ints) in
    let high : c.args.numbers.high ≤ℤ (get_or parts i none).high = grind (arith, ints) in
    sym (covers-rest parts (drop (i + 1) parts) c.args.numbers (get_or parts i none) next (at i c.loop-part-test.true was) low high)

pub loop-part-preserved : goal.loop-part-preserved
loop-part-preserved c =
    let parts = c.args.parts.now in
    let i = c.loop-part.part-index in
    let numbers = c.args.numbers in
    let next = c.loop-part.next in
    let part = get_or parts i none in
    let rest = drop (i + 1) parts in
    let was = at i c.loop-part-test.true (subst (λ n. IsHeldUpto parts (drop i parts) numbers n) c.loop-part.next-is c.loop-part.invariant) in
    let fits : FitsSigned w128 (get_or parts i none).low = search rules in
    let fits' : FitsSigned w128 (get_or parts i none).high = search rules in
    let fits'' : FitsSigned w128 c.args.numbers.high = search rules in
    let low : (get_or parts i none).low ≤ℤ c.loop-part.next = grind (arith, ints) in
    let less : (get_or parts i none).high <ℤ c.args.numbers.high = grind (arith, ints) in
    let on = held_on parts rest numbers part next was low less in
    let result : FitsSigned w128 c.past-next.result = search rules in
    let choice = ap (λ m. if int_le m part.high then part.high +ℤ pos 1 else m) c.loop-part.next-is in
    subst (λ n. IsHeldUpto parts rest numbers n) (sym (to_z-of_z w128 c.past-next.result result ∙ c.past-next.ensures ∙ choice)) on

pub returns : goal.returns
returns c =
    let parts = c.args.parts.now in
    let i = c.loop-part.part-index in
    let none = drop_all i parts c.loop-part-test.false in
    let was = subst (λ n. IsHeldUpto parts (drop i parts) c.args.numbers n) c.loop-part.next-is c.loop-part.invariant in
    sym (covers-gap parts (drop i parts) c.args.numbers c.loop-part.next was (ap (λ rest. holds rest c.loop-part.next) none))
