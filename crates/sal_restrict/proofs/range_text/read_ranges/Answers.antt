use Rattle.std.proofs.Common.{◌^◌, Err, FitsSigned, sym, ap, subst, ◌∙◌}
use Rattle.sal_types.proofs.Readers.{gives_err}
use Rattle.std.specs.Int.{w128}
use Rattle.std.specs.List.{list_all, list_any}
use Rattle.sal_restrict.specs.declared.fault.RangeFault.TheVariants.{NoMemory}
use Rattle.sal_restrict.specs.Ranges.{is_ascending, covers, outer, least, greatest, holds}
use Rattle.sal_restrict.specs.RangeTexts.{parts}
use Rattle.sal_restrict.specs.Readings.{parts_of, AreRead, is_span_large}
use Rattle.sal_restrict.specs.Words.{is_trimmed}
use Rattle.sal_restrict.proofs.Splits.{texts}
use Rattle.sal_restrict.proofs.Parts.{wider-by_large, held_within}
use Rattle.sal_restrict.proofs.range_text.read_ranges.Goals as goal

pub returns-in_err-parts-clause-exact : goal.returns-in_err-parts-clause-exact
returns-in_err-parts-clause-exact c =
    gives_err NoMemory _ _ c.in_err-parts.field-0.0 _ c.from_residual-in_err-parts.ensures.1 (λ known.
    let t = c.args.text.now in
    let within = c.args.within.now in
    let digits = c.args.digits in
    let scale = 10 ^ digits in
    let spans = c.in_ok-spans.spans.items in
    let (wider, found) = c.in_err-parts.ensures.value known in
    let bytes = c.as_bytes-text.ensures.value in
    let items = c.items-within.ensures.all in
    let trimmed = ap is_trimmed (sym bytes) ∙ sym c.is_trimmed.ensures ∙ c.if-not-is_trimmed.false in
    let bounds = c.outer.ensures.value ∙ ap outer items in
    let some = ap (λ u. parts digits c.outer.result (texts u)) (sym bytes) ∙ c.in_ok-spans.ensures.value in
    let large = ap (list_any is_span_large) (sym c.as_slice-2.ensures.value) ∙ found in
    let low = subst (λ list. FitsSigned w128 (least list)) items c.outer.ensures.fits.0 in
    let high = subst (λ list. FitsSigned w128 (greatest list)) items c.outer.ensures.fits.1 in
    let read = c.in_ok-spans.ensures.read in
    let ascending = ap (λ list. is_ascending (parts_of scale list)) (sym c.as_slice.ensures.value)
    ∙ sym (c.are_ascending.ensures scale (subst (AreRead scale) (sym c.as_slice.ensures.value) read)) ∙ c.if-not-are_ascending.false in
    wider-by_large t within digits c.outer.result spans trimmed bounds some read large c.items-within.ensures.order low high ascending ∙ ap Err (sym wider))

pub returns-clause-narrow : goal.returns-clause-narrow
returns-clause-narrow c n held =
    let within = c.args.within.now in
    let parts = c.in_ok-parts.parts.items in
    let all = (λ i. list_all (covers (sym c.items-within.ensures.all i)) (sym c.as_slice-3.ensures.value i)) ∙ sym c.all_covered.ensures ∙ c.if-not-all_covered.false in
    held_within within parts n all (ap (λ list. holds list n) (sym c.from_items.ensures) ∙ held)
