use Rattle.std.proofs.Common.{is_some, subst, ap, ◌∙◌, arith}
use Rattle.std.specs.String.{string_bytes}
use Rattle.regex.specs.Names.{names_of}
use Rattle.regex_syntax.specs.Verdict.{Reads}
use Rattle.regex_hir.specs.Find.{find_str}
use Rattle.sal_json.specs.Patterns.{finds}
use Rattle.sal_json.proofs.Found.{found_as_read}
use Rattle.sal_json.proofs.whole.Free.is_found.Goals as goal

pub returns : goal.returns
returns c =
    let p = c.self.inside.regex.pattern in
    let t = c.args.text.now in
    let reads = subst (λ config. Reads config (string_bytes p.source) p.program.hir (names_of p.names.items)) c.self.invariant.0 c.self.invariant.1 in
    c.is_match.ensures.found ∙ ap (λ re. is_some (find_str re t 0)) c.in_ok-matcher.ensures.pattern ∙ found_as_read (string_bytes p.source) p.program.hir (names_of p.names.items) t (λ k. omega (arith, c.type_inv.text k)) reads ∙ ap (λ source. finds source t) c.self.view_is
