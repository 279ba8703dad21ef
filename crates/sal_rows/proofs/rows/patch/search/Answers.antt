use Rattle.std.proofs.Common.{rules}
use Rattle.std.proofs.lemmas.Fn.{always_returns_same}
use Rattle.sal_types.specs.declared.row.Row.{Row}
use Rattle.sal_types.specs.Order.{path_cmp}
use Rattle.sal_rows.proofs.Found.{is-found}
use Rattle.sal_rows.proofs.rows.patch.search.Goals as goal

pub returns-clause-found : goal.returns-clause-found
returns-clause-found c = is-found c.args.rows.now c.args.path.now c.binary_search_by.result c.requires (c.binary_search_by.ensures.position (λ (y : Row). path_cmp y.path c.args.path.now) (always_returns_same _ _ _ (λ a r f' called. search rules)))
