use Rattle.std.proofs.Common.{◌++◌, string_bytes, ap, sym, ◌∙◌}
use Rattle.sal_script.specs.Report.{reply_line}
use Rattle.sal_report.proofs.Lists.{one_line, all_lines, client_lines-from}
use Rattle.sal_report.proofs.lines.push_client.Goals as goal

pub loop-step-preserved : goal.loop-step-preserved
loop-step-preserved c =
    let l = c.loop-step in
    one_line (reply_line c.args.schemas.now c.args.client) (string_bytes l.text) _ l.step c.args.replies.now l.invariant c.index-replies-step.result _ c.loop-step-test.true c.index-replies-step.is c.in_ok-push_line.ensures

pub returns : goal.returns
returns c =
    let l = c.loop-step in
    all_lines (reply_line c.args.schemas.now c.args.client) (string_bytes l.text) _ l.step c.args.replies.now l.invariant c.loop-step-test.false
    ∙ ap (λ lines. string_bytes c.args.text.now ++ lines) (sym (client_lines-from c.args.schemas.now c.args.client 0 c.args.replies.now))
