use Rattle.std.proofs.Common.{◌∙◌, [], not, sym, ap}
use Rattle.std.proofs.lemmas.Bool.{and_parts}
use Rattle.std.specs.List.{list_any}
use Rattle.sal_module.specs.Faults.{least}
use Rattle.sal_module.specs.Statements.{is_named, subs_of}
use Rattle.sal_typedefs.specs.Entries.{item_of, entry_faults}
use Rattle.sal_typedefs.specs.Restrictions.{choices}
use Rattle.sal_typedefs.specs.Judgements.{base_seen}
use Rattle.sal_typedefs.proofs.LayerLists.{none-named}
use Rattle.sal_typedefs.proofs.layer.listed_by.Goals as goal

pub returns-then-takes_all-clause-fault : goal.returns-then-takes_all-clause-fault
returns-then-takes_all-clause-fault c =
    let a = c.args in
    let p = is_named (item_of a.n) in
    let takes = sym c.takes_all.ensures ∙ c.if-takes_all.true in
    let none = none-named p (subs_of a.stmt.now) (and_parts (not a.basis.now.itself) (not (list_any p (subs_of a.stmt.now))) takes).1 in
    ap (λ stmts. least a.best (entry_faults a.n (choices (base_seen a.basis.now)) a.number [] stmts)) (sym none)
