use Rattle.std.proofs.Common.{ap, sym, ◌∙◌}
use Rattle.std.specs.List.{list_all}
use Rattle.sal_types.specs.declared.row.Row.{Row}
use Rattle.sal_types.specs.Prefix.{is_prefix}
use Rattle.sal_tree.proofs.Parts.{filter-all, all-filter}
use Rattle.sal_tree.proofs.under.lie_under.Goals as goal

pub returns : goal.returns
returns c =
    let same = c.all_under.ensures ∙ ap (list_all (λ (row : Row). is_prefix c.args.path.now row.path)) c.items.ensures.all in (
      (λ yes. filter-all (λ row. is_prefix c.args.path.now row.path) c.args.rows.now (sym same ∙ yes)),
      (λ all. same ∙ all-filter (λ row. is_prefix c.args.path.now row.path) c.args.rows.now all),
    )
