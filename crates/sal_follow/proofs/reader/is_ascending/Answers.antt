use Rattle.std.proofs.Common.{◌≤◌, length, rules, arith}
use Rattle.sal_follow.proofs.Rising.{kept, fails, ended}
use Rattle.sal_follow.proofs.reader.is_ascending.Goals as goal

pub loop-i-preserved : goal.loop-i-preserved
loop-i-preserved c =
    kept c.args.patches.now c.loop-i.i c.index-patches-i.result c.index-patches-i-in-loop-i.result (omega arith) (omega arith) c.index-patches-i.is c.index-patches-i-in-loop-i.is c.loop-i.invariant c.is_before.result c.is_before.ensures
    (search rules)

pub returns-then-not-is_before : goal.returns-then-not-is_before
returns-then-not-is_before c =
    fails c.args.patches.now c.loop-i.i c.index-patches-i.result c.index-patches-i-in-loop-i.result (omega arith) (omega arith) c.index-patches-i.is c.index-patches-i-in-loop-i.is c.loop-i.invariant c.is_before.result c.is_before.ensures
    (search rules)

pub returns : goal.returns
returns c = let all : length c.args.patches.now ≤ c.loop-i.i = omega arith in ended c.args.patches.now c.loop-i.i all c.loop-i.invariant
