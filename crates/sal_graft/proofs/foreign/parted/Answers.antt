-- A commit of the chain ends a span, and no other does.
use Rattle.std.proofs.Common.{rules, ◌≡◌, ◌-◌, ◌+◌, true, false, All, Some, ap, sym, subst, ◌∙◌, arith}
use Rattle.std.proofs.lemmas.List.Elements.{All-push}
use Rattle.sal_rows.specs.declared.clash.Span.{Span}
use Rattle.sal_rows.specs.Spans.{is_own}
use Rattle.sal_graft.specs.Kept.{IsSpanOf, chains_of}
use Rattle.sal_graft.proofs.Parting.{is_own-kept, length-chains_of, parted-other, parted-own, parted_from}
use Rattle.sal_graft.proofs.foreign.parted.Goals as goal

pub loop-number-preserved-then-not-is_of_chain : goal.loop-number-preserved-then-not-is_of_chain
loop-number-preserved-then-not-is_of_chain c =
    let kept = c.args.commits.now in
    let n = c.loop-number.number in
    let long = length-chains_of kept (omega arith) in
    let tested : c.is_of_chain.result ≡ false = search rules in
    let own : is_own (Some c.args.chain) (chains_of kept) n ≡ false =
    is_own-kept (Some c.args.chain) kept n c.index-commits-number.result (omega arith) (omega arith) c.index-commits-number.is ∙ sym c.is_of_chain.ensures ∙ tested in
    record {
      low = omega arith;
      from = omega arith;
      kept = c.loop-number.invariant.kept;
      each = c.loop-number.invariant.each;
      left = parted-other c.loop-number.spans.items c.loop-number.from (Some c.args.chain) (chains_of kept) n (omega arith) (omega (arith, long)) own ∙ c.loop-number.invariant.left;
    }

pub loop-number-preserved : goal.loop-number-preserved
loop-number-preserved c =
    let kept = c.args.commits.now in
    let n = c.loop-number.number in
    let long = length-chains_of kept (omega arith) in
    let tested : c.is_of_chain.result ≡ true = search rules in
    let own : is_own (Some c.args.chain) (chains_of kept) n ≡ true =
    is_own-kept (Some c.args.chain) kept n c.index-commits-number.result (omega arith) (omega arith) c.index-commits-number.is ∙ sym c.is_of_chain.ensures ∙ tested in
    let ended : Span = record { from = c.loop-number.from; to = n - 1 } in
    let is : IsSpanOf kept ended = record { ordered = omega arith; ends = omega arith } in
    record {
      low = omega arith;
      from = omega arith;
      kept = omega arith;
      each = subst (All (IsSpanOf kept)) (sym c.in_ok-push.ensures.items) (All-push (IsSpanOf kept) c.loop-number.spans.items ended c.loop-number.invariant.each is);
      left =
          ap (λ done. parted_from done n (Some c.args.chain) (chains_of kept) (n + 1)) c.in_ok-push.ensures.items
          ∙ parted-own c.loop-number.spans.items c.loop-number.from (Some c.args.chain) (chains_of kept) n (omega arith) (omega (arith, long)) own ∙ c.loop-number.invariant.left;
    }
