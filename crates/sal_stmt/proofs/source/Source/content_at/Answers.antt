use Rattle.std.proofs.Common.{◌∙◌, take, arith}
use Rattle.sal_stmt.specs.Quoted.{last_columns}
use Rattle.std.proofs.lemmas.Grind.{common_steps}
use Rattle.std.proofs.lemmas.Bool.Decides.{nat_tests}
use Rattle.sal_stmt.proofs.Quotes.{content-one_line}
use Rattle.sal_stmt.proofs.source.Source.content_at.Goals as goal

pub returns-then-line_len-raw : goal.returns-then-line_len-raw
returns-then-line_len-raw c =
    let same = content-one_line 0 (last_columns (take c.args.before c.args.self.now.text.now)) c.args.raw.now (grind (arith, nat_tests, common_steps)) in
    c.in_ok-text.ensures ∙ same
