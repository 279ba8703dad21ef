-- The last version is the one that is formed.
use Rattle.std.proofs.Common.{List, Result, Ok, ap, sym, ◌∙◌}
use Rattle.sal_types.specs.Reading.{◌>>=◌}
use Rattle.sal_schema.specs.declared.table.SchemaTable.{SchemaTable}
use Rattle.sal_json.specs.Patterns.{patterns_of}
use Rattle.sal_script.specs.Tables.{last_among}
use Rattle.sal_prepare.specs.declared.status.Status.{Status}
use Rattle.sal_prepare.proofs.own_schema.last_schema.Goals as goal

pub returns-clause-table : goal.returns-clause-table
returns-clause-table c =
    ap (λ (made : Result (List SchemaTable) Status). made >>= (λ formed. Ok (last_among formed))) c.in_ok-patterns.ensures.formed ∙ ap Ok (sym (c.in_ok-schema.ensures ∙ c.last_of.ensures))

pub returns-clause-patterns : goal.returns-clause-patterns
returns-clause-patterns c = c.in_ok-patterns.ensures.patterns ∙ ap patterns_of (sym (c.in_ok-schema.ensures ∙ c.last_of.ensures))
