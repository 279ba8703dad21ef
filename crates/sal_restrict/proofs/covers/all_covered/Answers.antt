use Rattle.std.proofs.Common.{◌≡◌, ◌+◌, ℕ, pos, ◌<◌, int_le, true, ◌&&◌, List, ◌∷◌, drop, get_or, length, sym, ap, subst, ◌∙◌}
use Rattle.std.proofs.lemmas.Bool.{and_parts}
use Rattle.std.proofs.lemmas.List.{drop_more}
use Rattle.std.specs.List.{list_all}
use Rattle.sal_restrict.specs.declared.ranges.Part.{Part}
use Rattle.sal_restrict.specs.Ranges.{is_below, is_ascending, covers}
use Rattle.sal_restrict.proofs.Numbers.{ended, all_covered-ended, is_ascending-drop, le_test, lt_passes}
use Rattle.sal_restrict.proofs.covers.all_covered.Goals as goal

abbrev none : Part
none = record { low = pos 0; high = pos 0 }

pub covers-requires-clause-order : goal.covers-requires-clause-order
covers-requires-clause-order c = rw c.not_ended-rest.ensures (is_ascending-drop (ended (get_or c.args.parts.now c.loop-part.part-index none).low c.loop-part.rest.now) c.loop-part.rest.now c.loop-part.invariant.order)

pub covers-requires-clause-some : goal.covers-requires-clause-some
covers-requires-clause-some c =
    let parts = c.args.parts.now in
    let i = c.loop-part.part-index in
    let part = get_or parts i none in
    let rest = drop (i + 1) parts in
    let order = subst (λ list. is_ascending list ≡ true) (drop_more parts i none c.loop-part-test.true) (is_ascending-drop i parts c.requires.order) in
    le_test part.low part.high (and_parts (int_le part.low part.high) (is_below part.high rest && is_ascending rest) order).0

-- what is left of the parts, at those of `within` that do not end before the next one
left : (within rest now : List Part) (parts : List Part) (i : ℕ) → drop (ended (get_or parts i none).low rest) rest ≡ now → is_ascending parts ≡ true → i < length parts
    → list_all (covers within) parts ≡ list_all (covers rest) (drop i parts)
    → list_all (covers within) parts ≡ (covers now (get_or parts i none) && list_all (covers now) (drop (i + 1) parts))
left within rest now parts i gone order more was =
    let part = get_or parts i none in
    let split = drop_more parts i none more in
    let ascending = subst (λ list. is_ascending list ≡ true) split (is_ascending-drop i parts order) in
    let all = all_covered-ended (part ∷ drop (i + 1) parts) rest part.low ascending (λ n less. lt_passes n part.low less) in
    was ∙ ap (list_all (covers rest)) split ∙ all ∙ ap (λ list. list_all (covers list) (part ∷ drop (i + 1) parts)) gone

pub returns-then-not-covers : goal.returns-then-not-covers
returns-then-not-covers c =
    let all = left c.args.within.now c.loop-part.rest.now c.not_ended-rest.result.now c.args.parts.now c.loop-part.part-index (sym c.not_ended-rest.ensures) c.requires.order c.loop-part-test.true c.loop-part.invariant.value in
    let no = sym c.covers.ensures ∙ c.if-not-covers.true in
    sym (all ∙ ap (λ b. b && list_all (covers c.not_ended-rest.result.now) (drop (c.loop-part.part-index + 1) c.args.parts.now)) no)

pub loop-part-preserved : goal.loop-part-preserved
loop-part-preserved c =
    let all = left c.args.within.now c.loop-part.rest.now c.not_ended-rest.result.now c.args.parts.now c.loop-part.part-index (sym c.not_ended-rest.ensures) c.requires.order c.loop-part-test.true c.loop-part.invariant.value in
    let here = sym c.covers.ensures ∙ c.if-not-covers.false in
    record {
      order = rw c.not_ended-rest.ensures (is_ascending-drop (ended (get_or c.args.parts.now c.loop-part.part-index none).low c.loop-part.rest.now) c.loop-part.rest.now c.loop-part.invariant.order);
      value = all ∙ ap (λ b. b && list_all (covers c.not_ended-rest.result.now) (drop (c.loop-part.part-index + 1) c.args.parts.now)) here;
    }
