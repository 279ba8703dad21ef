use Rattle.std.proofs.Common.{◌≡◌, ℕ, ◌+◌, ◌<◌, int_le, pos, Bool, refl, subst, true, false, ◌&&◌, List, drop, get_or, length, sym, ap, ◌∙◌}
use Rattle.std.proofs.lemmas.List.{drop_more}
use Rattle.std.proofs.lemmas.List.Elements.{All-drop, All-get_or}
use Rattle.sal_restrict.specs.declared.bound.Bound.TheVariants.{Small}
use Rattle.sal_restrict.specs.declared.span.Span.{Span}
use Rattle.sal_restrict.specs.Ranges.{is_below, is_ascending}
use Rattle.sal_restrict.specs.Readings.{number_of, IsSpanRead, AreRead, parts_of}
use Rattle.sal_restrict.proofs.span.are_ascending.Goals as goal

and_assoc : (a b d : Bool) → (a && (b && d)) ≡ ((a && b) && d)
and_assoc true b d = refl
and_assoc false b d = refl

abbrev none : Span
none = record { low = Small (pos 0); high = Small (pos 0) }

-- the next part and those after it
next : (scale : ℕ) (spans : List Span) (i : ℕ) → i < length spans
    → is_ascending (parts_of scale (drop i spans)) ≡ ((int_le (number_of scale (get_or spans i none).low) (number_of scale (get_or spans i none).high)
    && is_below (number_of scale (get_or spans i none).high) (parts_of scale (drop (i + 1) spans))) && is_ascending (parts_of scale (drop (i + 1) spans)))
next scale spans i h =
    ap (λ list. is_ascending (parts_of scale list)) (drop_more spans i none h)
    ∙ and_assoc (int_le (number_of scale (get_or spans i none).low) (number_of scale (get_or spans i none).high))
    (is_below (number_of scale (get_or spans i none).high) (parts_of scale (drop (i + 1) spans))) (is_ascending (parts_of scale (drop (i + 1) spans)))

module _ (scale : ℕ) (spans others : List Span) (i : ℕ) (h : i < length spans) (rest : others ≡ drop (i + 1) spans) (read : AreRead scale spans) (first : Bool)
    (test : IsSpanRead scale (get_or spans i none) → AreRead scale others → first ≡ (int_le (number_of scale (get_or spans i none).low) (number_of scale (get_or spans i none).high)
    && is_below (number_of scale (get_or spans i none).high) (parts_of scale others)))
    (was : is_ascending (parts_of scale spans) ≡ is_ascending (parts_of scale (drop i spans))) where
  tested : is_ascending (parts_of scale spans) ≡ (first && is_ascending (parts_of scale (drop (i + 1) spans)))
  tested =
      let here = test (All-get_or (IsSpanRead scale) spans i none h read) (subst (AreRead scale) (sym rest) (All-drop (IsSpanRead scale) (i + 1) spans read)) in
      let there = here ∙ ap (λ list. int_le (number_of scale (get_or spans i none).low) (number_of scale (get_or spans i none).high) && is_below (number_of scale (get_or spans i none).high) (parts_of scale list)) rest in
      was ∙ next scale spans i h ∙ ap (λ b. b && is_ascending (parts_of scale (drop (i + 1) spans))) (sym there)

pub returns-then-not-comes_first : goal.returns-then-not-comes_first
returns-then-not-comes_first c scale read =
    let spans = c.args.spans.now in
    let i = c.loop-i.i in
    let all = tested scale spans c.behind_part.result.now i c.loop-i-test.true c.behind_part.ensures read c.comes_first.result (c.comes_first.ensures scale) (c.loop-i.invariant scale read) in
    sym (all ∙ ap (λ b. b && is_ascending (parts_of scale (drop (i + 1) spans))) c.if-not-comes_first.true)

pub loop-i-preserved : goal.loop-i-preserved
loop-i-preserved c scale read =
    let spans = c.args.spans.now in
    let i = c.loop-i.i in
    let all = tested scale spans c.behind_part.result.now i c.loop-i-test.true c.behind_part.ensures read c.comes_first.result (c.comes_first.ensures scale) (c.loop-i.invariant scale read) in
    all ∙ ap (λ b. b && is_ascending (parts_of scale (drop (i + 1) spans))) c.if-not-comes_first.false
