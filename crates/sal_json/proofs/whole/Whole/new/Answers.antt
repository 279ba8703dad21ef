-- The parser's verdict is that of the grammar.
use Rattle.std.proofs.Common.{map, option_map, subst, sym, ◌∙◌}
use Rattle.std.specs.String.{string_bytes}
use Rattle.regex_syntax.specs.Verdict.{default_config, Reads, Refuses}
use Rattle.sal_json.proofs.Grammars.{read-good, refused-bad}
use Rattle.sal_json.proofs.whole.Whole.new.Goals as goal

pub kind_of-requires : goal.kind_of-requires
kind_of-requires c =
    let p = c.in-Ok.parsed in
    let names = map (option_map string_bytes) p.names.items in
    let reads = subst (λ config. Reads config c.as_str.result.now p.hir names) c.default.ensures c.in-Ok.ensures.ok in
    subst (λ source. Reads default_config source p.hir names) (c.as_str.ensures.value ∙ sym c.as_str-in-Ok.ensures.value) reads

pub returns-in-Ok : goal.returns-in-Ok
returns-in-Ok c =
    let p = c.in-Ok.parsed in
    let source = c.as_str.result.now in
    let given = c.as_str.ensures.value ∙ c.in_ok-whole.ensures in
    let names = map (option_map string_bytes) p.names.items in
    let reads = subst (λ config. Reads config source p.hir names) c.default.ensures c.in-Ok.ensures.ok in
    (c.in_ok-kind-in-Ok.ensures ∙ c.as_str-in-Ok.ensures.value ∙ c.in_ok-whole.ensures, read-good c.args.text.now source p.hir names given reads)

pub returns : goal.returns
returns c =
    let source = c.as_str.result.now in
    let kind = c.in-Err.error.kind in
    let given = c.as_str.ensures.value ∙ c.in_ok-whole.ensures in
    let refuses = subst (λ config. Refuses config source kind) c.default.ensures c.in-Err.ensures.err in
    refused-bad c.args.text.now source kind given c.in_default.not-OutOfMemory refuses
