use Rattle.std.proofs.Common.{◌≡◌, ◌+◌, true, false, take, sym, ◌∙◌, arith}
use Rattle.sal_data.proofs.Prefixed.{all_more, all_fails, all_done, shared_all}
use Rattle.sal_near.specs.Near.{is_whole_if_there}
use Rattle.sal_near.proofs.near.is_whole_to.Goals as goal

pub loop-len-init : goal.loop-len-init
loop-len-init c =
    let test = is_whole_if_there c.args.schema.now c.args.rows.now in
    shared_all test c.args.before.now c.args.steps.now (c.shared-len.result + 1) (omega (arith, c.shared-len.ensures.count)) c.requires.whole

pub loop-len-preserved : goal.loop-len-preserved
loop-len-preserved c =
    let test = is_whole_if_there c.args.schema.now c.args.rows.now in
    let here : test (take c.loop-len.len c.args.steps.now) ≡ true = sym c.is_whole_if_there.ensures ∙ c.if-not-is_whole_if_there.false in
    all_more test c.args.steps.now c.loop-len.len (omega (arith, c.loop-len-test.true)) c.loop-len.invariant here

pub returns-then-not-is_whole_if_there : goal.returns-then-not-is_whole_if_there
returns-then-not-is_whole_if_there c =
    let test = is_whole_if_there c.args.schema.now c.args.rows.now in
    let here : test (take c.loop-len.len c.args.steps.now) ≡ false = sym c.is_whole_if_there.ensures ∙ c.if-not-is_whole_if_there.true in
    sym (all_fails test c.args.steps.now c.loop-len.len (omega (arith, c.loop-len-test.true)) here)

pub returns : goal.returns
returns c =
    let test = is_whole_if_there c.args.schema.now c.args.rows.now in
    sym (all_done test c.args.steps.now c.loop-len.len (omega (arith, c.loop-len-test.false)) c.loop-len.invariant)
