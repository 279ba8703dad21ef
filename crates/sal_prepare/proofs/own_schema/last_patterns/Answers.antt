-- The last version is well formed, and so all are.
use Rattle.std.proofs.Common.{◌≡◌, false, ap, ◌∙◌, subst}
use Rattle.sal_schema.specs.declared.table.SchemaTable.{SchemaTable}
use Rattle.sal_json.specs.Patterns.{patterns_of}
use Rattle.sal_client.specs.Malformed.{is_malformed}
use Rattle.sal_prepare.specs.Scripted.{tables_in}
use Rattle.sal_prepare.proofs.Chosen.{last_own}
use Rattle.sal_prepare.proofs.OwnSchemas.{all_well, older_well}
use Rattle.sal_prepare.proofs.own_schema.last_patterns.Goals as goal

pub returns-in-Ok-clause-formed : goal.returns-in-Ok-clause-formed
returns-in-Ok-clause-formed c =
    let versions = c.args.versions.now in
    let last = c.deref.ensures ∙ last_own versions c.index-versions-last.result c.requires.some c.index-versions-last.is in
    all_well (tables_in versions) (older_well (tables_in versions) c.requires.order (subst (λ (t : SchemaTable). is_malformed t ≡ false) last c.in-Ok.ensures.formed))

pub returns-in-Ok-clause-patterns : goal.returns-in-Ok-clause-patterns
returns-in-Ok-clause-patterns c =
    c.in-Ok.ensures.patterns ∙ ap patterns_of (c.deref.ensures ∙ last_own c.args.versions.now c.index-versions-last.result c.requires.some c.index-versions-last.is)
