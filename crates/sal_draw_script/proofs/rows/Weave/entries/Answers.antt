use Rattle.std.proofs.Common.{◌≡◌, ◌+◌, ℕ, ap, sym, ◌∙◌}
use Rattle.sal_draw.specs.Acts.{made_in}
use Rattle.sal_draw_script.specs.Rows.{Weave, tables_in, weave, weave_of}
use Rattle.sal_draw_script.proofs.Weaving.{fold_more, weave_place}
use Rattle.sal_draw_script.proofs.rows.Weave.entries.Goals as goal

pub loop-entry-preserved : goal.loop-entry-preserved
loop-entry-preserved c =
    let l = c.loop-entry in
    let e = c.entry-item.result in
    let tables = tables_in c.args.ground.schemas.now in
    let made = made_in c.args.ground.made.now in
    let f = weave tables made c.args.from in
    let next : weave_of c.weave.new.self ≡ f (weave_of l.self) e = c.in_ok-weave.ensures in (
      next ∙ ap (λ (w : Weave). f w e) l.invariant.0 ∙ sym (fold_more f (weave_of c.args.self.now) c.args.log.now l.entry-index e c.loop-entry-test.true c.entry-item.is),
      ap (λ (w : Weave). w.place) next ∙ weave_place tables made c.args.from (weave_of l.self) e ∙ ap (λ (n : ℕ). n + 1) l.invariant.1,
    )
