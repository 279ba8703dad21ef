-- The domain has the copy of the schema.
use Rattle.std.proofs.Common.{rules, ◌≡◌, ◌∙◌}
use Rattle.tests_calls.proofs.opened.add.Goals as goal

pub returns-in-Ok : goal.returns-in-Ok
returns-in-Ok c = λ yes.
    let same : c.in-Ok.first.value ≡ c.args.schema.now.value = search rules in
    (c.domain.result, c.add_domain.ensures yes, record { closed = c.domain.ensures.closed; schema = c.domain.ensures.schema ∙ same; versions = c.domain.ensures.versions })
