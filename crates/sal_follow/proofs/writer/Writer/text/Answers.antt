use Rattle.std.proofs.Common.{◌≡◌, ◌≤◌, Some, IsUtf8, ap, sym, subst, ◌∙◌, arith}
use Rattle.serde_json.specs.Data.{depth}
use Rattle.serde_json.specs.Read.{read, max_depth}
use Rattle.serde_json.specs.View.{view}
use Rattle.serde_json.specs.Written.{compact_text, has_float}
use Rattle.sal_follow.specs.Written.{frame_json, frame_text}
use Rattle.sal_follow.proofs.Plain.{plain_frame}
use Rattle.sal_follow.proofs.writer.Writer.text.Goals as goal

pub returns-clause-text : goal.returns-clause-text
returns-clause-text c =
    let plain = plain_frame c.args.self.now.schema.now c.args.frame.now in
    c.in_ok-text.ensures.text (ap has_float c.in_ok-json.ensures ∙ plain.0) ∙ ap compact_text c.in_ok-json.ensures

pub returns-clause-reads : goal.returns-clause-reads
returns-clause-reads c =
    let plain = plain_frame c.args.self.now.schema.now c.args.frame.now in
    let text : c.in_ok-text.text.items ≡ frame_text c.args.self.now.schema.now c.args.frame.now = returns-clause-text c in
    let deep : depth (view c.in_ok-json.json) ≡ depth (frame_json c.args.self.now.schema.now c.args.frame.now) = ap depth c.in_ok-json.ensures in
    let few : depth (view c.in_ok-json.json) ≤ max_depth = omega (arith, deep, plain.1) in
    (subst IsUtf8 text c.in_ok-text.ensures.utf8, ap read (sym text) ∙ c.in_ok-text.ensures.reads_back few ∙ ap Some c.in_ok-json.ensures)
