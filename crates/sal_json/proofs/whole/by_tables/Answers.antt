use Rattle.std.proofs.Common.{is_some, ap, ◌∙◌}
use Rattle.regex_meta.specs.Programs.{pattern_of, leftmost}
use Rattle.sal_json.proofs.Begun.{as_bytes}
use Rattle.sal_json.proofs.whole.by_tables.Goals as goal

pub returns : goal.returns
returns c =
    c.is_match.ensures.found ∙ ap (λ p. is_some (leftmost p c.args.text.now 0)) c.in_ok-searcher.ensures
    ∙ as_bytes (pattern_of c.args.program.now) c.args.text.now c.requires
