use Rattle.std.proofs.Common.{rules, get_or, sym, ap, ◌∙◌}
use Rattle.std.proofs.lemmas.Fn.{always_returns_same}
use Rattle.sal_schema.specs.declared.names.Named.{Named}
use Rattle.sal_schema.specs.Names.{name_cmp, name_of_parts}
use Rattle.sal_schema.proofs.Searched.{names_rise, none_is_called, found_at}
use Rattle.sal_schema.proofs.names.Index.find.Goals as goal

pub returns-in-Ok : goal.returns-in-Ok
returns-in-Ok c =
    let name = name_of_parts c.args.parent c.args.module c.args.text.now in
    let is = c.in-Ok.ensures.position (λ (y : Named). name_cmp y.name name) (always_returns_same _ _ _ (λ a r f' called. search rules)) in
    let here = c.index.ensures ∙ ap (λ xs. get_or xs c.in-Ok.at c.index.result.now) (sym c.deref.ensures.value) in
    rw (← c.self.view_is, ← c.deref.ensures.value) (found_at c.deref.result.now name c.in-Ok.at c.index.result.now c.in-Ok.ensures.bound is here)

pub returns-in-Err : goal.returns-in-Err
returns-in-Err c =
    let name = name_of_parts c.args.parent c.args.module c.args.text.now in
    let is = c.in-Err.ensures.position (λ (y : Named). name_cmp y.name name) (always_returns_same _ _ _ (λ a r f' called. search rules)) in
    let rising = names_rise c.deref.result.now name (rw c.deref.ensures.value c.self.invariant) in
    rw (← c.self.view_is, ← c.deref.ensures.value) (none_is_called c.deref.result.now name c.in-Err.field-0 (is rising))
