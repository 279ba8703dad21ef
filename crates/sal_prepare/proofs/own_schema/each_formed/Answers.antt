-- One version after another is well formed, or the first that is not counts.
use Rattle.std.proofs.Common.{rules, ◌≡◌, ◌<◌, ◌+◌, ◌-◌, false, length, take, ap, sym, ◌∙◌, subst, arith}
use Rattle.std.specs.Prelude.{IfOk, IfErr}
use Rattle.std.specs.List.{list_any}
use Rattle.sal_schema.specs.declared.table.SchemaTable.{SchemaTable}
use Rattle.sal_json.specs.Patterns.{patterns_of}
use Rattle.sal_client.specs.Malformed.{is_malformed}
use Rattle.sal_prepare.specs.OwnSchemas.{IsUnformedBy}
use Rattle.sal_prepare.specs.Scripted.{IsStatusOf, if_formed, tables_in}
use Rattle.sal_prepare.proofs.Chosen.{last_own}
use Rattle.sal_prepare.proofs.OwnSchemas.{comes_last, goes_on, stops_at}
use Rattle.sal_prepare.proofs.own_schema.each_formed.Goals as goal

pub returns-in_err-formed-clause-formed : goal.returns-in_err-formed-clause-formed
returns-in_err-formed-clause-formed c =
    let l = c.loop-version in
    let s = c.index-versions-version.result in
    let e = c.in_err-formed.field-0.0 in
    let within : l.version < length c.args.versions.now = omega (arith, c.loop-version-test.true) in
    let bad : IsUnformedBy l.version s.value e = subst (λ (t : SchemaTable). IsUnformedBy l.version t e) c.deref.ensures c.in_err-formed.ensures.refused in
    let stop : IsStatusOf (if_formed 0 (tables_in c.args.versions.now)) e = stops_at c.args.versions.now l.version s e within c.index-versions-version.is l.invariant bad in
    search (stop, rules)

pub loop-version-preserved : goal.loop-version-preserved
loop-version-preserved c =
    let l = c.loop-version in
    let s = c.index-versions-version.result in
    let within : l.version < length c.args.versions.now = omega (arith, c.loop-version-test.true) in
    goes_on c.args.versions.now l.version s within c.index-versions-version.is l.invariant (ap is_malformed (sym c.deref.ensures) ∙ c.in_ok-formed.ensures.formed)

pub returns-clause-formed : goal.returns-clause-formed
returns-clause-formed c =
    let versions = c.args.versions.now in
    let s = c.index-versions-last.result in
    let last : (length versions - 1) + 1 ≡ length versions = omega (arith, c.requires) in
    let none = c.loop-version.invariant in
    let end : c.loop-version.version ≡ length versions - 1 = omega (arith, c.loop-version-test.false, c.loop-version.auto.version-end) in
    comes_last versions (length versions - 1) s c.formed-2.result last c.index-versions-last.is (subst (λ n. list_any is_malformed (take n (tables_in versions)) ≡ false) end none)
    (subst (λ (t : SchemaTable). IfOk c.formed-2.result (λ x. is_malformed t ≡ false)) c.deref-2.ensures c.formed-2.ensures.formed)
    (subst (λ (t : SchemaTable). IfErr c.formed-2.result (IsUnformedBy (length versions - 1) t)) c.deref-2.ensures c.formed-2.ensures.refused)

pub returns-clause-patterns : goal.returns-clause-patterns
returns-clause-patterns c =
    subst (λ (t : SchemaTable). IfOk c.formed-2.result (λ patterns. patterns ≡ patterns_of t)) (c.deref-2.ensures ∙ last_own c.args.versions.now c.index-versions-last.result c.requires c.index-versions-last.is) c.formed-2.ensures.patterns
