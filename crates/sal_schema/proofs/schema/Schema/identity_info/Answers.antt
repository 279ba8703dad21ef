use Rattle.std.proofs.Common.{◌≡◌, ◌<◌, length, get_or, ap, ◌∙◌, sym, Some}
use Rattle.std.specs.List.{slice_get}
use Rattle.sal_schema.proofs.Facts.{slice_get_at, identity_is_good}
use Rattle.sal_schema.proofs.schema.Schema.identity_info.Goals as goal

pub returns-clause-within : goal.returns-clause-within
returns-clause-within c =
    let table = c.self.inside.table in
    let here = c.index-items-identity.is ∙ ap (λ xs. get_or xs c.args.identity c.index-items-identity.result) c.items.ensures in
    let low : c.args.identity < length table.identities = rw c.self.view_is c.requires in
    let there : slice_get table.identities c.args.identity ≡ Some c.index-items-identity.result =
    slice_get_at table.identities c.args.identity c.index-items-identity.result low ∙ ap Some (sym here) in
    rw (← c.self.view_is, there) (identity_is_good table c.args.identity c.index-items-identity.result c.self.invariant.is_table low here)
