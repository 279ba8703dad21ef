-- All patterns are well formed, or the first malformed one counts.
use Rattle.std.proofs.Common.{◌≡◌, ℕ, ◌+◌, false, List, Ok, Err, ap, sym, ◌∙◌, subst, arith}
use Rattle.std.specs.declared.alloc.Global.{Global}
use Rattle.std.specs.declared.sync.Arc.{Arc}
use Rattle.std.specs.List.{list_any}
use Rattle.sal_schema.specs.declared.table.SchemaTable.{SchemaTable}
use Rattle.sal_client.specs.Lists.{versions_by}
use Rattle.sal_client.specs.Malformed.{are_malformed, shared_tables, IsMalformedAt}
use Rattle.sal_prepare.specs.declared.status.Status.TheVariants.{BadSchema}
use Rattle.sal_prepare.specs.Each.{each_from}
use Rattle.sal_prepare.specs.Scripted.{if_formed, pattern_text, versions_shared}
use Rattle.sal_prepare.proofs.Formed.{all_formed, first_malformed}
use Rattle.sal_prepare.proofs.Statuses.{fails_as}
use Rattle.sal_prepare.proofs.domains.readers_of.Goals as goal

abbrev Lent : Type 0
Lent = List (Arc SchemaTable Global)

-- the versions of schemas that are lent
lent : {a b : Lent} (own devices : Lent) → a ≡ own → b ≡ devices → versions_by (shared_tables a) (shared_tables b) ≡ versions_by (shared_tables own) (shared_tables devices)
lent {a} {b} own devices first others = ap (λ (xs : Lent). versions_by (shared_tables xs) (shared_tables b)) first ∙ ap (λ (xs : Lent). versions_by (shared_tables own) (shared_tables xs)) others

pub returns-in-Ok-clause-readers : goal.returns-in-Ok-clause-readers
returns-in-Ok-clause-readers c =
    let e = c.in-Ok.ensures in
    let schemas = c.args.schemas.now in
    let tables = versions_shared schemas in
    let same : c.in-Ok.readers ≡ tables = e.tables ∙ lent schemas.own.items schemas.devices.items c.deref.ensures.value c.deref-2.ensures.value in
    all_formed tables 0 (subst (λ (ts : List (List SchemaTable)). list_any are_malformed ts ≡ false) same e.formed) ∙ ap Ok (sym same)

pub returns-in-Err-Pattern-clause-readers : goal.returns-in-Err-Pattern-clause-readers
returns-in-Err-Pattern-clause-readers c =
    let schemas = c.args.schemas.now in
    let tables = versions_shared schemas in
    let d = c.in-Err-Pattern.device in
    let v = c.in-Err-Pattern.version in
    let refused = subst (λ (ts : List (List SchemaTable)). IsMalformedAt ts c.in-Err-Pattern.field-0)
    (lent schemas.own.items schemas.devices.items c.deref.ensures.value c.deref-2.ensures.value) c.in-Err-Pattern.ensures.refused in
    let first = subst (IsMalformedAt tables) c.in-Err-Pattern.field-0-is refused in
    let there : 0 + d ≡ d = omega (arith) in
    fails_as (List SchemaTable) (each_from if_formed 0 tables) (BadSchema d (pattern_text v)) c.bad_pattern.result
    (first_malformed tables 0 d v first.0 first.1 ∙ ap (λ (k : ℕ). Err (BadSchema k (pattern_text v))) there) c.bad_pattern.ensures
