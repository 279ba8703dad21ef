use Rattle.std.proofs.Common.{◌<◌, ◌≤◌, ◌^◌, ◌+◌, take, drop, length, Some, refl, ◌∙◌, sym, ap, arith}
use Rattle.std.proofs.lemmas.List.Elements.{All-push}
use Rattle.sal_restrict.specs.RangeTexts.{part, parts}
use Rattle.sal_restrict.specs.Readings.{parts_of, IsSpanRead}
use Rattle.sal_restrict.proofs.Splits.{behind, texts, text_len, parts-none, parts-last, parts-more, parts_of-push}
use Rattle.sal_restrict.proofs.span.read_spans.Goals as goal

pub returns-in-None-clause-value : goal.returns-in-None-clause-value
returns-in-None-clause-value c =
    let digits = c.args.digits in
    let outer = c.args.outer in
    let rest = c.parts.rest.now in
    let first = c.front.ensures ∙ ap (λ n. take n rest) c.part_len-len.ensures.value in
    let none = sym (c.in-None.ensures.value ∙ ap (part digits outer) first) in
    λ other. (refl, c.parts.invariant.value ∙ ap (behind (parts_of (10 ^ digits) c.parts.spans.items)) (parts-none digits outer rest none))

pub returns-then-len-rest-clause-value : goal.returns-then-len-rest-clause-value
returns-then-len-rest-clause-value c =
    let digits = c.args.digits in
    let outer = c.args.outer in
    let rest = c.parts.rest.now in
    let first = c.front.ensures ∙ ap (λ n. take n rest) c.part_len-len.ensures.value in
    let one = sym (c.in-Some.ensures.value ∙ ap (part digits outer) first) in
    let last : length rest ≤ text_len rest = omega arith in
    let scale = 10 ^ digits in
    c.parts.invariant.value ∙ parts-last digits outer (parts_of scale c.parts.spans.items) rest _ one last
    ∙ ap Some (sym (ap (parts_of scale) c.in_ok-push-in-Some.ensures.items ∙ parts_of-push scale c.parts.spans.items c.in-Some.span))

pub returns-then-len-rest-clause-read : goal.returns-then-len-rest-clause-read
returns-then-len-rest-clause-read c =
    rw c.in_ok-push-in-Some.ensures.items (All-push (IsSpanRead (10 ^ c.args.digits)) _ _ c.parts.invariant.read c.in-Some.ensures.read)

pub parts-preserved : goal.parts-preserved
parts-preserved c =
    let digits = c.args.digits in
    let outer = c.args.outer in
    let rest = c.parts.rest.now in
    let first = c.front.ensures ∙ ap (λ n. take n rest) c.part_len-len.ensures.value in
    let one = sym (c.in-Some.ensures.value ∙ ap (part digits outer) first) in
    let more : text_len rest < length rest = omega arith in
    let scale = 10 ^ digits in
    let pushed = ap (parts_of scale) c.in_ok-push-in-Some.ensures.items ∙ parts_of-push scale c.parts.spans.items c.in-Some.span in
    let left = c.behind-rest.ensures ∙ ap (λ n. drop (n + 1) rest) c.part_len-len.ensures.value in
    record {
      value = c.parts.invariant.value ∙ parts-more digits outer (parts_of scale c.parts.spans.items) rest _ one more
          ∙ (λ i. behind (sym pushed i) (parts digits outer (texts (sym left i))));
      read = rw c.in_ok-push-in-Some.ensures.items (All-push (IsSpanRead scale) _ _ c.parts.invariant.read c.in-Some.ensures.read);
    }
