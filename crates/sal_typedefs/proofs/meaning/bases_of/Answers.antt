use Rattle.std.proofs.Common.{◌∙◌, ◌∷◌, ◌++◌, [], filter, sym, ap}
use Rattle.std.specs.List.{flat_map}
use Rattle.std.specs.Option.{option_to_list}
use Rattle.sal_module.specs.declared.keyword.Keyword.TheVariants as word
use Rattle.sal_module.specs.Statements.{is_named, subs_of, argument_of}
use Rattle.sal_typedefs.specs.Scopes.{identity_of}
use Rattle.sal_typedefs.proofs.MeaningLists.{filtered-more}
use Rattle.sal_typedefs.proofs.meaning.bases_of.Goals as goal

pub loop-sub-preserved : goal.loop-sub-preserved
loop-sub-preserved c =
    let a = c.args in
    let sub = c.sub-item.result in
    let is = rw c.items-sub-items.ensures at c.sub-item.is in
    let lt = rw c.items-sub-items.ensures at c.loop-sub-test.true in
    c.in_ok-push_base.ensures
    ∙ ap (λ l. l ++ flat_map (λ s. option_to_list (identity_of a.typedefs.now a.number (argument_of s))) (filter (is_named word.Base) (sub ∷ []))) c.loop-sub.invariant
    ∙ sym (filtered-more (λ s. option_to_list (identity_of a.typedefs.now a.number (argument_of s))) (is_named word.Base) (subs_of a.stmt.now) c.loop-sub.sub-index sub lt is)
