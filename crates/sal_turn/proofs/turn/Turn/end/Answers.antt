use Rattle.std.proofs.Common.{rules, ℕ, ◌∷◌, Some, sym, ap, ◌∙◌, subst}
use Rattle.atomic_table.specs.Table.{rest}
use Rattle.sal_turn.specs.Entries.{AddsAtMostOne}
use Rattle.sal_turn.specs.Stages.{entries_found}
use Rattle.sal_turn.proofs.Pass.{passes}
use Rattle.sal_turn.proofs.turn.Turn.end.Goals as goal

pub fetch_add-served-requires : goal.fetch_add-served-requires
fetch_add-served-requires g c =
    let e = c.exchange-before.ensures in
    let r = c.requires in (
      search rules,
      search rules,
      passes g.V.Chronicle.entries g.V.Chronicle.client g.V.Chronicle.ground _ _ _ r.staged.0 (entries_found c.args.token.now.me.0.stage) c.args.value
          (ap (λ m. m.0.stage) e.3 ∙ r.staged.1)
          (ap (λ m. m.1) e.3 ∙ ap (λ c'. (0, Some c.args.value) ∷ rest c') r.out)
          (subst (λ (k : ℕ). AddsAtMostOne g.V.Chronicle.client k (entries_found c.args.token.now.me.0.stage) (g.V.Chronicle.entries c.args.value)) (sym (ap (λ m. m.0.number) e.3)) r.entries)
          (ap (λ m. m.0.ground) e.3 ∙ r.ground),
    )
