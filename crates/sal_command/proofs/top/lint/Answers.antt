-- What was said is written, with the status of the script.
use Rattle.std.proofs.Common.{◌≡◌, List, ℕ, subst, sym}
use Rattle.sal_lint_script.specs.Linted.{lint_text, status_of}
use Rattle.sal_command.proofs.Linting.{lints}
use Rattle.sal_command.proofs.top.lint.Goals as goal

pub returns-in-Ok-lint-clause-answer : goal.returns-in-Ok-lint-clause-answer
returns-in-Ok-lint-clause-answer g c =
    let bytes = c.in-Ok.bytes.items in
    let linted = c.in-Ok-lint.linted in
    let input = c.in-Ok.ensures.input in
    let same : c.deref.result.now ≡ bytes = c.deref.ensures.value in
    let is : linted.text ≡ lint_text linted.json bytes = subst (λ (read : List ℕ). linted.text ≡ lint_text linted.json read) same c.in-Ok-lint.ensures.text in
    let ends : status_of bytes ≡ linted.status = sym (subst (λ (read : List ℕ). linted.status ≡ status_of read) same c.in-Ok-lint.ensures.status) in
    lints (g.S.Source.left c.args.source.now) (g.S.Source.left c.input_of.new.source) (g.K.Sink.taken c.args.sink.now) (g.K.Sink.taken c.write_linted.new.sink) linted.text linted.status c.write_linted.result
    (record { bytes = bytes; taken = input.0; within = input.1; json = linted.json; is = is; ends = ends }) c.in-Ok-lint.ensures.end c.write_linted.ensures.written
