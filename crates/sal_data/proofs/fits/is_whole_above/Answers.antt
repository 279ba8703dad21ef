use Rattle.std.proofs.Common.{◌≡◌, ◌+◌, true, false, List, take, sym, ◌∙◌, arith}
use Rattle.std.specs.Prelude.{not, ◌||◌}
use Rattle.sal_types.specs.declared.value.Step.{Step}
use Rattle.sal_types.specs.Prefix.{is_prefix}
use Rattle.sal_schema.specs.Fitting.{is_whole_at}
use Rattle.sal_data.proofs.Prefixed.{all_more, all_fails, all_done, shared_all}
use Rattle.sal_data.proofs.fits.is_whole_above.Goals as goal

pub loop-len-init : goal.loop-len-init
loop-len-init c =
    let test = λ (q : List Step). not (is_prefix c.args.from.now q) || is_whole_at c.args.schema.now c.args.rows.now q in
    shared_all test c.args.before.now c.args.steps.now (c.shared-len.result + 1) (omega (arith, c.shared-len.ensures.count)) c.requires.whole

pub loop-len-preserved : goal.loop-len-preserved
loop-len-preserved c =
    let test = λ (q : List Step). not (is_prefix c.args.from.now q) || is_whole_at c.args.schema.now c.args.rows.now q in
    let here : test (take c.loop-len.len c.args.steps.now) ≡ true = sym c.is_whole_from.ensures ∙ c.if-not-is_whole_from.false in
    all_more test c.args.steps.now c.loop-len.len (omega (arith, c.loop-len-test.true)) c.loop-len.invariant here

pub returns-then-not-is_whole_from : goal.returns-then-not-is_whole_from
returns-then-not-is_whole_from c =
    let test = λ (q : List Step). not (is_prefix c.args.from.now q) || is_whole_at c.args.schema.now c.args.rows.now q in
    let here : test (take c.loop-len.len c.args.steps.now) ≡ false = sym c.is_whole_from.ensures ∙ c.if-not-is_whole_from.true in
    sym (all_fails test c.args.steps.now c.loop-len.len (omega (arith, c.loop-len-test.true)) here)

pub returns : goal.returns
returns c =
    let test = λ (q : List Step). not (is_prefix c.args.from.now q) || is_whole_at c.args.schema.now c.args.rows.now q in
    sym (all_done test c.args.steps.now c.loop-len.len (omega (arith, c.loop-len-test.false)) c.loop-len.invariant)
