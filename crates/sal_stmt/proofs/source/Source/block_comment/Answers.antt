use Rattle.std.proofs.Common.{◌<◌, length, arith}
use Rattle.std.proofs.lemmas.Grind.{common_steps}
use Rattle.std.proofs.lemmas.Bool.Decides.{nat_tests}
use Rattle.sal_stmt.proofs.Separators.{block_comment_at, block_comment-none}
use Rattle.sal_stmt.proofs.source.Source.block_comment.Goals as goal

pub returns-then-starts_with-clause-value : goal.returns-then-starts_with-clause-value
returns-then-starts_with-clause-value c =
    let within : c.loop-i.i < length c.args.s.now = omega (arith, c.as_bytes-bytes.ensures.len) in
    let step = block_comment_at c.args.self.now.text.now c.args.s.now c.args.start c.loop-i.i within in
    grind (arith, nat_tests, common_steps)

pub returns-then-is_control-clause-value : goal.returns-then-is_control-clause-value
returns-then-is_control-clause-value c _ =
    let within : c.loop-i.i < length c.args.s.now = omega (arith, c.as_bytes-bytes.ensures.len) in
    let step = block_comment_at c.args.self.now.text.now c.args.s.now c.args.start c.loop-i.i within in
    grind (arith, nat_tests, common_steps)

pub loop-i-preserved : goal.loop-i-preserved
loop-i-preserved c =
    let within : c.loop-i.i < length c.args.s.now = omega (arith, c.as_bytes-bytes.ensures.len) in
    let step = block_comment_at c.args.self.now.text.now c.args.s.now c.args.start c.loop-i.i within in
    grind (arith, nat_tests, common_steps)

pub returns-clause-value : goal.returns-clause-value
returns-clause-value c _ = grind (arith, common_steps, block_comment-none c.args.self.now.text.now c.args.start)
