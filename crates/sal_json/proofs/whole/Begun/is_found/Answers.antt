use Rattle.std.proofs.Common.{is_some, ap, subst, arith, ◌∙◌, IsUtf8}
use Rattle.regex_hir.specs.Meaning.{meaning}
use Rattle.regex_hir.specs.Re.{accept, attempt}
use Rattle.regex_meta.proofs.LeftmostLemmas.{are_bytes}
use Rattle.sal_json.specs.Patterns.{finds}
use Rattle.sal_json.proofs.Begun.{as_text}
use Rattle.sal_json.proofs.whole.Begun.is_found.Goals as goal

pub returns : goal.returns
returns c =
    let re = meaning c.self.inside.program.hir in
    let t = c.args.text.now in
    c.in_ok-is_match.ensures ∙ ap (λ hay. is_some (attempt hay re accept 0)) c.as_bytes.ensures.value
    ∙ as_text re t (subst IsUtf8 c.as_bytes.ensures.value c.as_bytes.ensures.utf8) c.self.invariant.1
    ∙ c.self.invariant.0 t (are_bytes t (λ k. omega (arith, c.type_inv.text k)))
    ∙ ap (λ source. finds source t) c.self.view_is
